-- What was added are the parts of the sources so far.
use Rattle.std.proofs.Common.{◌≡◌, take}
use Rattle.resolver_doc.specs.View.{sources_view}
use Rattle.permutations.specs.inner.Parts.{parts_view, rows_view, parts_in}
use Rattle.permutations.proofs.part.parts_of.Given as goal

abbrev pub invariant-loop-source : goal.invariant-loop-source
invariant-loop-source l = parts_view l.parts.items ≡ parts_in (rows_view l.rows) (sources_view (take l.source-index l.sources))
