-- With the sets that are still to come, all names are listed.
use Rattle.std.proofs.Common.{◌≡◌, ◌++◌, drop, map}
use Rattle.resolver_doc.specs.Document.{name_in}
use Rattle.resolver_doc.specs.inner.Known.{known_sets}
use Rattle.resolver_doc.proofs.rings.ring_names.Given as goal

abbrev pub invariant-loop-number : goal.invariant-loop-number
invariant-loop-number l = l.names ++ map (name_in (known_sets l.known)) (drop l.number-index l.ring) ≡ map (name_in (known_sets l.known)) l.ring
