-- What is left of the members and of the numbers.
use Rattle.std.proofs.Common.{◌≡◌, ◌+◌, length, drop}
use Rattle.std.proofs.Common.{map as map_list}
use Rattle.token_tree.specs.Tree.{Group, children_of}
use Rattle.token_tree.specs.View.{member_view, members_view}
use Rattle.group_inherit.specs.Extension.{GroupPath, names_of_groups, paths_below}
use Rattle.group_inherit.specs.inner.Tables.{HaveExpansions}
use Rattle.group_inherit.proofs.Expands.{Filling}
use Rattle.group_inherit.proofs.expanding.expand_members.Given as goal

abbrev pub invariant-loop-member : goal.invariant-loop-member
invariant-loop-member l = record {
  many : l.next + length (names_of_groups (children_of (drop l.member-index (map_list member_view l.member-items)))) ≡ length l.children;
  filling : (tree : Group) (path : GroupPath) → HaveExpansions tree l.table (paths_below path (children_of (map_list member_view l.member-items))) l.children
      → Filling tree path l.table (map_list member_view l.member-items) (drop l.member-index (map_list member_view l.member-items)) (drop l.next l.children) (members_view l.expanded);
}
