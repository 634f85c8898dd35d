use Rattle.std.proofs.Common.{ap, ◌∙◌}
use Rattle.std.specs.FinMap as map
use Rattle.token_tree.specs.Tree.{a_group}
use Rattle.token_tree.specs.View.{group_view}
use Rattle.group_inherit.proofs.merging.put_group.Goals as goal

pub returns : goal.returns
returns c =
    c.in_ok-put.ensures.ok ∙ ap (map.insert c.args.members.now c.args.name.now) (ap (λ g. a_group (group_view g)) c.in_ok-shared.ensures.ok)
