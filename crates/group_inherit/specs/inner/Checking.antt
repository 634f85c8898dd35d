-- Groups that are ready to be expanded.
use Rattle.std.specs.Prelude.{◌≡◌, ◌<◌, ℕ, List, [], length, All}
use Rattle.ring.specs.Order.{Follows}
use Rattle.ring.specs.Lists.{In}
use Rattle.token_tree.specs.Tree.{Group}
use Rattle.group_inherit.specs.declared.targets.Row.{Row}
use Rattle.group_inherit.specs.inner.Numbering.{GroupAt, numbered_group, IsNumbering, AreRows, needs_by}

-- The groups of a tree are numbered, the rows have what they need, and the order has the root and is one in which each
-- follows what it needs.
pub record IsChecked (tree : Group) (nodes : List GroupAt) (rows : List Row) (order : List ℕ) : Type 0 where
  pub numbering : IsNumbering nodes
  pub itself : numbered_group nodes 0 ≡ tree
  pub long : length rows ≡ length nodes
  pub each_row : AreRows nodes rows
  pub within : All (λ v. v < length nodes) order
  pub follows : Follows (needs_by rows) [] order
  pub root : In 0 order
