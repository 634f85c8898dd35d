use Rattle.std.proofs.Common.{ap}
use Rattle.file_plan.specs.View.{plan_sources_view}
use Rattle.source_trees.specs.View.{home_view}
use Rattle.source_trees.proofs.Fronts.{same_tree}
use Rattle.source_trees.proofs.Laid.{none_case}
use Rattle.source_trees.proofs.laying.lay_front.Goals as goal

pub lay_from-requires-clause-before : goal.lay_from-requires-clause-before
lay_from-requires-clause-before c =
    same_tree c.args.shapes.now (home_view c.args.home) (plan_sources_view c.args.front.now.sources.now) _ c.args.front.now.tree c.in_ok-tree.tree c.in_ok-tree.ensures
    (ap plan_sources_view c.requires.begins.begins) c.requires.front

pub returns-clause-front : goal.returns-clause-front
returns-clause-front c = none_case c.in_ok-found.field-0 _ c.in_default.is c.in_ok-found.ensures.laid
