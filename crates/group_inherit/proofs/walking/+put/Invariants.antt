-- The tokens of the members that are left, put over those so far, are all.
use Rattle.std.proofs.Common.{◌≡◌, ◌+◌, drop}
use Rattle.std.proofs.Common.{map as map_list}
use Rattle.token_tree.specs.Tree.{children_of}
use Rattle.token_tree.specs.View.{member_view, child_view, group_view}
use Rattle.group_inherit.specs.inner.View.{nearest_view}
use Rattle.group_inherit.specs.Flattening.{tokens_among}
use Rattle.group_inherit.specs.Putting.{put_all}
use Rattle.group_inherit.proofs.Weights.{child_weight, group_weight}
use Rattle.group_inherit.proofs.walking.+put.Given as goal

abbrev pub decreases-put_group : goal.decreases-put_group
decreases-put_group l = group_weight (group_view l.group.now)

abbrev pub decreases-put_child : goal.decreases-put_child
decreases-put_child l = child_weight (child_view l.child.now) + 1

abbrev pub invariant-put_group-loop-member : goal.invariant-put_group-loop-member
invariant-put_group-loop-member l = record {
  names : l.names.items ≡ l.initial.names.items;
  flat : put_all (tokens_among l.fn.names.items (nearest_view l.nearest) (children_of (drop l.member-index (map_list member_view l.member-items)))) l.flat
      ≡ put_all (tokens_among l.fn.names.items (nearest_view l.nearest) (children_of (map_list member_view l.member-items))) l.initial.flat;
}
