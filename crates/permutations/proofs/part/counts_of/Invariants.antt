-- The count is that of the sources so far.
use Rattle.std.proofs.Common.{◌≡◌, take}
use Rattle.resolver_doc.specs.View.{sources_view}
use Rattle.permutations.specs.inner.Parts.{rows_view, counts_in}
use Rattle.permutations.proofs.part.counts_of.Given as goal

abbrev pub invariant-loop-source : goal.invariant-loop-source
invariant-loop-source l = l.count ≡ counts_in (rows_view l.rows) (sources_view (take l.source-index l.sources))
