-- The members that are left, measured with those so far, are all.
use Rattle.std.proofs.Common.{◌+◌, drop}
use Rattle.std.proofs.Common.{map as map_list}
use Rattle.token_tree.specs.View.{member_view, child_view, group_view}
use Rattle.group_inherit.proofs.Measures.{Measuring}
use Rattle.group_inherit.proofs.Weights.{child_weight, group_weight}
use Rattle.group_inherit.proofs.bare.+size.Given as goal

abbrev pub decreases-bare_size : goal.decreases-bare_size
decreases-bare_size l = group_weight (group_view l.group.now)

abbrev pub decreases-child_size : goal.decreases-child_size
decreases-child_size l = child_weight (child_view l.child.now) + 1

abbrev pub invariant-bare_size-loop-member : goal.invariant-bare_size-loop-member
invariant-bare_size-loop-member l = Measuring (map_list member_view l.member-items) (drop l.member-index (map_list member_view l.member-items)) l.size.members l.size.levels
