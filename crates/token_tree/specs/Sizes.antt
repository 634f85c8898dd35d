-- How many groups and tokens a tree has, by which recursion over it ends.
use Rattle.std.specs.Prelude.{ℕ, ◌+◌}
use Rattle.std.specs.FinMap as map
use Rattle.token_tree.specs.Tree.{Child as ChildData, a_token, a_group, Group as GroupData, group, Children, no_children, child, Named, children_of}

abbrev mutual
  pub child_size : ChildData → ℕ
  child_size (a_token d) = 0
  child_size (a_group g) = group_size g

  pub group_size : GroupData → ℕ
  group_size (group ps cs) = children_size cs

  pub children_size : Children → ℕ
  children_size no_children = 0
  children_size (child name c cs) = child_size c + 1 + children_size cs

abbrev pub named_size : Named → ℕ
named_size m = children_size (children_of (map.entries m))
