use Rattle.std.proofs.Common.{◌++◌, drop}
use Rattle.std.specs.FinMap as map_of
use Rattle.token_tree.specs.View.{group_view, members_view}
use Rattle.token_tree.specs.Tree.{children_of}
use Rattle.group_inherit.specs.Extension.{groups_among}
use Rattle.group_inherit.specs.inner.View.{nodes_view}
use Rattle.group_inherit.proofs.Numbers.{size_of, Progress}
use Rattle.group_inherit.proofs.numbered.+add_groups.Given as goal

abbrev pub decreases-add_groups : goal.decreases-add_groups
decreases-add_groups l = size_of (group_view l.group.now)

-- what is added so far, and what is left of the children
abbrev pub invariant-loop-member : goal.invariant-loop-member
invariant-loop-member l =
    let es = map_of.entries (members_view l.group.members) in
    Progress l.path (nodes_view l.initial.nodes.items ++ groups_among l.path (children_of es)) es (nodes_view l.nodes.items) (drop l.member-index es)
