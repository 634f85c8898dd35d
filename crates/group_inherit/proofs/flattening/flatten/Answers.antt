use Rattle.token_tree.specs.View.{group_view}
use Rattle.group_inherit.proofs.BareTrees.{bare_expands}
use Rattle.group_inherit.proofs.flattening.flatten.Goals as goal

pub returns-clause-ok : goal.returns-clause-ok
returns-clause-ok g c =
    let tree = group_view c.args.tree.now in
    (tree, bare_expands tree c.in-Some.ensures.bare, c.in_ok-flat_of.ensures)
