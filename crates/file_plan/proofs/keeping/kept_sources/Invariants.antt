-- The sources so far are kept.
use Rattle.std.proofs.Common.{◌≡◌, take}
use Rattle.permutations.specs.View.{token_sources_view}
use Rattle.file_plan.specs.View.{plan_sources_view}
use Rattle.file_plan.proofs.keeping.kept_sources.Given as goal

abbrev pub invariant-loop-source : goal.invariant-loop-source
invariant-loop-source l = plan_sources_view l.kept ≡ token_sources_view (take l.source-index l.sources)
