-- What the sources that are still to come add to what is used is what all add.
use Rattle.std.proofs.Common.{◌≡◌, drop}
use Rattle.file_plan.specs.InUse.{in_use_by, names_in}
use Rattle.file_plan.specs.View.{plan_sources_view}
use Rattle.rebuild_core.proofs.used.use_sources.Given as goal

abbrev pub invariant-loop-source : goal.invariant-loop-source
invariant-loop-source l =
    in_use_by l.files l.used (names_in (plan_sources_view (drop l.source-index l.sources))) ≡ in_use_by l.files l.fn.used (names_in (plan_sources_view l.sources))
