-- With the members that are still to come, all have their numbers.
use Rattle.std.proofs.Common.{drop, map}
use Rattle.json_span.specs.View.{field_view}
use Rattle.resolver_doc.specs.inner.Pointers.{Completes}
use Rattle.resolver_doc.proofs.members.numbers.Given as goal

abbrev pub invariant-loop-number : goal.invariant-loop-number
invariant-loop-number l = Completes l.fn.name l.numbers l.number (map field_view (drop l.number l.members)) (map field_view l.members)
