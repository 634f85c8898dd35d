-- What is left of both lists, with what is merged so far, is all.
use Rattle.std.proofs.Common.{◌≡◌, ℕ, ◌+◌, ◌-◌, ◌≤◌, List, drop, length}
use Rattle.std.proofs.Common.{map as map_list}
use Rattle.std.specs.FinMap as map
use Rattle.std.specs.FinMap.Entries.{find}
use Rattle.tk_io.specs.Order.{text_cmp}
use Rattle.token_tree.specs.Tree.{children_of}
use Rattle.token_tree.specs.View.{child_view, member_view, members_view, group_view}
use Rattle.group_inherit.specs.Merging.{stands}
use Rattle.group_inherit.proofs.Merges.{left_or}
use Rattle.group_inherit.proofs.Weights.{child_weight, group_weight, children_weight}
use Rattle.group_inherit.proofs.merging.+over.Given as goal

abbrev pub decreases-put_over : goal.decreases-put_over
decreases-put_over l = child_weight (child_view l.later.now.child) + 1

abbrev pub decreases-over : goal.decreases-over
decreases-over l = group_weight (group_view l.later.now)

abbrev pub decreases-over_members : goal.decreases-over_members
decreases-over_members l = children_weight (children_of (map.entries (members_view l.later.now))) + 1

abbrev pub decreases-merged : goal.decreases-merged
decreases-merged l = children_weight (children_of (map.entries (members_view l.later.now)))

abbrev pub decreases-merged-loop-i : goal.decreases-merged-loop-i
decreases-merged-loop-i l = (length l.upper - l.i) + (length l.lower - l.j)

abbrev pub invariant-merged-loop-i : goal.invariant-merged-loop-i
invariant-merged-loop-i l = record {
  upper : l.i ≤ length l.upper;
  lower : l.j ≤ length l.lower;
  at : (q : List ℕ) → left_or (drop l.i (map_list member_view l.upper)) (drop l.j (map_list member_view l.lower)) (members_view l.members) q
      ≡ stands (find text_cmp q (map_list member_view l.upper)) (find text_cmp q (map_list member_view l.lower));
}
