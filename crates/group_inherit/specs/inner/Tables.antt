-- A table of groups by their numbers, and the expansions that stand in it.
use Rattle.std.specs.Prelude.{ℕ, List, [], ◌∷◌, Option, None, Some, map, slice_index_or}
use Rattle.token_tree.specs.Tree.{Group as GroupData}
use Rattle.token_tree.specs.View.{group_view}
use Rattle.token_tree.specs.declared.tree.Group.{Group}
use Rattle.group_inherit.specs.Merging.{empty_group}
use Rattle.group_inherit.specs.Expansion.{Expands}
use Rattle.group_inherit.specs.Extension.{GroupPath}

-- the group of a number, counted from 0
abbrev pub tabled_group : List Group → ℕ → GroupData
tabled_group table v = slice_index_or (map group_view table) v empty_group

-- at these numbers stand the expansions of the groups at these paths of a tree, one for each
abbrev pub HaveExpansions : GroupData → List Group → List GroupPath → List ℕ → Type 0
HaveExpansions tree table [] [] = Unit {0}
HaveExpansions tree table [] (w ∷ ws) = ⊥
HaveExpansions tree table (path ∷ paths) [] = ⊥
HaveExpansions tree table (path ∷ paths) (w ∷ ws) = Expands tree path (tabled_group table w) × HaveExpansions tree table paths ws

-- the same of a target, where there is one
abbrev pub HasTarget : GroupData → List Group → Option GroupPath → Option ℕ → Type 0
HasTarget tree table None None = Unit {0}
HasTarget tree table None (Some w) = ⊥
HasTarget tree table (Some path) None = ⊥
HasTarget tree table (Some path) (Some w) = Expands tree path (tabled_group table w)
