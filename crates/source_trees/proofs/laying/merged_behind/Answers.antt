use Rattle.std.proofs.Common.{List, length, ap, subst, arith}
use Rattle.std.proofs.lemmas.List.{take_all}
use Rattle.file_plan.specs.View.{plan_sources_view}
use Rattle.file_plan.specs.declared.source.PlanSource.{PlanSource}
use Rattle.source_trees.specs.Merging.{IsMergedBy}
use Rattle.source_trees.specs.View.{home_view}
use Rattle.source_trees.specs.declared.laying.Merged.TheVariants.{Tree}
use Rattle.source_trees.proofs.Fronts.{same_tree}
use Rattle.source_trees.proofs.Laid.{none_case}
use Rattle.source_trees.proofs.laying.merged_behind.Goals as goal

pub lay_front-requires-clause-front : goal.lay_front-requires-clause-front
lay_front-requires-clause-front c = c.begin.ensures.front c.args.shapes.now (home_view c.args.home) c.requires.front

pub lay_from-requires-clause-before : goal.lay_from-requires-clause-before
lay_from-requires-clause-before c =
    let front = c.lay_front.new.front in
    same_tree c.args.shapes.now (home_view c.args.home) (plan_sources_view front.sources.now) _ front.tree c.in_ok-tree.tree c.in_ok-tree.ensures
    (ap plan_sources_view c.lay_front.ensures.begins.begins) c.lay_front.ensures.front

pub returns-clause-merged : goal.returns-clause-merged
returns-clause-merged c =
    let sources = c.args.sources.now in
    subst (λ (ss : List PlanSource). IsMergedBy c.args.shapes.now (home_view c.args.home) (plan_sources_view ss) (Tree c.lay_from.new.tree))
    (take_all (length sources) sources (omega arith)) (none_case c.in_ok-found-2.field-0 _ c.in-None.is c.in_ok-found-2.ensures.laid)
