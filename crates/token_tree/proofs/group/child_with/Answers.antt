use Rattle.std.proofs.Common.{ap, ◌∙◌}
use Rattle.token_tree.specs.Tree.{a_group}
use Rattle.token_tree.specs.View.{group_view}
use Rattle.token_tree.proofs.group.child_with.Goals as goal

pub returns : goal.returns
returns c = λ text es listed are.
    ap (λ g. a_group (group_view g)) c.in_ok-shared.ensures.ok ∙ ap a_group (c.in_ok-group.ensures text es listed are)
