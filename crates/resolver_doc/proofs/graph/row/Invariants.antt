-- With the sources that are still to come, all sets are listed.
use Rattle.std.proofs.Common.{◌≡◌, ◌++◌, drop}
use Rattle.resolver_doc.specs.Rings.{sets_in}
use Rattle.resolver_doc.specs.View.{sources_view}
use Rattle.resolver_doc.proofs.graph.row.Given as goal

abbrev pub invariant-loop-source : goal.invariant-loop-source
invariant-loop-source l = l.row.items ++ sets_in (sources_view (drop l.source-index l.sources)) ≡ sets_in (sources_view l.sources)
