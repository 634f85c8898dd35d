use Rattle.std.proofs.Common.{subst}
use Rattle.token_tree.specs.View.{group_view}
use Rattle.file_plan.specs.View.{plan_source_view}
use Rattle.source_trees.specs.inner.Laying.{LaysBy}
use Rattle.source_trees.specs.View.{home_view}
use Rattle.source_trees.proofs.laying.lay_over.Goals as goal

pub returns-in-Ok-Tree-clause-laid : goal.returns-in-Ok-Tree-clause-laid
returns-in-Ok-Tree-clause-laid c =
    subst (LaysBy c.args.shapes.now (home_view c.args.home) (plan_source_view c.args.source.now) (group_view c.args.tree.now)) c.in-Ok-Tree.field-0-is c.in-Ok-Tree.ensures

pub returns-in-Ok-Broken-clause-broken : goal.returns-in-Ok-Broken-clause-broken
returns-in-Ok-Broken-clause-broken c =
    subst (LaysBy c.args.shapes.now (home_view c.args.home) (plan_source_view c.args.source.now) (group_view c.args.tree.now)) c.in-Ok-Broken.field-0-is c.in-Ok-Broken.ensures
