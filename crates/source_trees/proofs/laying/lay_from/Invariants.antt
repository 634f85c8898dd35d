-- The sources so far come to this tree.
use Rattle.std.proofs.Common.{take}
use Rattle.file_plan.specs.View.{plan_sources_view}
use Rattle.source_trees.specs.Merging.{IsMergedBy}
use Rattle.source_trees.specs.View.{home_view}
use Rattle.source_trees.specs.declared.laying.Merged.TheVariants.{Tree}
use Rattle.source_trees.proofs.laying.lay_from.Given as goal

abbrev pub invariant-loop-i : goal.invariant-loop-i
invariant-loop-i l = IsMergedBy l.shapes (home_view l.home) (plan_sources_view (take l.i l.sources)) (Tree l.tree)
