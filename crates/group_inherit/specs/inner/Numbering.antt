-- The groups of a tree, numbered in path order from 0, which is the root.
use Rattle.std.specs.Prelude.{◌≡◌, ◌<◌, ℕ, zero, suc, List, [], ◌∷◌, ◌++◌, length, map, All, Bool, Option, Some, None, is_some, option_map, option_to_list, slice_get, slice_index_or}
use Rattle.std.specs.FinMap as map_of
use Rattle.std.specs.declared.alloc.Global.{Global}
use Rattle.std.specs.declared.vec.Vec.{Vec}
use Rattle.ring.specs.Graph.{needs_in}
use Rattle.tk_io.specs.Order.{names_cmp}
use Rattle.token_tree.specs.Tree.{Extension, Child, a_token, a_group, Group, group, Children, no_children, child}
use Rattle.group_inherit.specs.Merging.{empty_group}
use Rattle.group_inherit.specs.declared.targets.Row.{Row}
use Rattle.group_inherit.specs.Extension.{GroupPath, groups_from, children_in, Lost, lost_at, lost_among, extension_of, target_path, child_paths, needs_of, extension_along, extension_around}

-- a group with its path
abbrev pub GroupAt : Type 0
GroupAt = GroupPath × Group

abbrev pub nowhere : GroupAt
nowhere = ([], empty_group)

-- the group of a number, where there is one
abbrev pub numbered_group : List GroupAt → ℕ → Group
numbered_group nodes v = (slice_index_or nodes v nowhere).1

-- its path
abbrev pub numbered_path : List GroupAt → ℕ → GroupPath
numbered_path nodes v = (slice_index_or nodes v nowhere).0

-- all numbers of a row: those of the child groups, and then the target's
abbrev pub numbers_of : Row → List ℕ
numbers_of row = row.children.items ++ option_to_list row.target

-- .. of the row of a number; none where there is no row
abbrev pub needs_by : List Row → ℕ → List ℕ
needs_by [] v = []
needs_by (row ∷ rows) zero = numbers_of row
needs_by (row ∷ rows) (suc v) = needs_by rows v

-- No two children of a group have one name.

abbrev pub LacksName : List ℕ → Children → Type 0
LacksName name no_children = Unit {0}
LacksName name (child other c cs) = (name ≡ other → ⊥) × LacksName name cs

abbrev mutual
  pub AreNamed : Group → Type 0
  AreNamed (group ps cs) = AreNamedAmong cs

  pub AreNamedAmong : Children → Type 0
  AreNamedAmong no_children = Unit {0}
  AreNamedAmong (child name c cs) = LacksName name cs × AreNamedIn c × AreNamedAmong cs

  pub AreNamedIn : Child → Type 0
  AreNamedIn (a_token d) = Unit {0}
  AreNamedIn (a_group g) = AreNamed g

-- the groups of the tree whose root is the first
pub record IsNumbering (nodes : List GroupAt) : Type 0 where
  pub all : nodes ≡ groups_from [] (numbered_group nodes 0)
  pub named : AreNamed (numbered_group nodes 0)

-- numbers by paths
abbrev pub Places : Type 0
Places = map_of.FinMap names_cmp ℕ

-- the numbers of paths, as far as the first n groups have them
pub record ArePlaces (nodes : List GroupAt) (n : ℕ) (places : Places) : Type 0 where
  pub found : (path : GroupPath) (v : ℕ) → map_of.get places path ≡ Some v → (v < n) × (numbered_path nodes v ≡ path)
  pub missing : (path : GroupPath) (v : ℕ) → map_of.get places path ≡ None → v < n → numbered_path nodes v ≡ path → ⊥

-- the child groups of a group at a path have numbers

abbrev pub IsNumbered : Places → GroupPath → Child → Type 0
IsNumbered places path (a_token d) = Unit {0}
IsNumbered places path (a_group g) = (v : ℕ) × (map_of.get places path ≡ Some v)

abbrev pub AreNumbered : Places → GroupPath → Children → Type 0
AreNumbered places path no_children = Unit {0}
AreNumbered places path (child name c cs) = IsNumbered places (path ++ name ∷ []) c × AreNumbered places path cs

abbrev pub EachNumbered : Places → List GroupAt → Type 0
EachNumbered places [] = Unit {0}
EachNumbered places (n ∷ ns) = AreNumbered places n.0 (children_in n.1) × EachNumbered places ns

-- the row has the numbers of a group's child groups, in their order, and that of its target
pub record IsRow (places : Places) (n : GroupAt) (row : Row) : Type 0 where
  pub children : map (λ v. Some v) row.children.items ≡ map (map_of.get places) (child_paths n.0 n.1)
  pub target : option_map (λ v. Some v) row.target ≡ option_map (map_of.get places) (target_path n.1)

abbrev pub EachRow : Places → List GroupAt → List Row → Type 0
EachRow places [] [] = Unit {0}
EachRow places [] (row ∷ rows) = ⊥
EachRow places (n ∷ ns) [] = ⊥
EachRow places (n ∷ ns) (row ∷ rows) = IsRow places n row × EachRow places ns rows

-- targets that have no number

abbrev pub has_number : Places → GroupPath → Bool
has_number places path = is_some (map_of.get places path)

abbrev pub lost_of : Places → GroupAt → List Lost
lost_of places n = lost_at (has_number places) n.0 (extension_of n.1)

abbrev pub lost_nodes : Places → List GroupAt → List Lost
lost_nodes places = lost_among (has_number places)

-- by its numbers, the row has what the group of this number needs
pub record IsRowOf (nodes : List GroupAt) (v : ℕ) (row : Row) : Type 0 where
  pub children : map (numbered_path nodes) row.children.items ≡ child_paths (numbered_path nodes v) (numbered_group nodes v)
  pub target : option_map (numbered_path nodes) row.target ≡ target_path (numbered_group nodes v)
  pub within : All (λ w. w < length nodes) (numbers_of row)

-- each row is that of its number
abbrev pub AreRows : List GroupAt → List Row → Type 0
AreRows nodes rows = (v : ℕ) (row : Row) → slice_get rows v ≡ Some row → IsRowOf nodes v row

-- the lists have the numbers of the rows
abbrev pub AreListed : List Row → List (Vec ℕ Global) → Type 0
AreListed rows lists = map (λ l. l.items) lists ≡ map numbers_of rows

-- by its numbers, a list has what the group of its number needs
abbrev pub AreNeeds : List GroupAt → List (Vec ℕ Global) → Type 0
AreNeeds nodes lists = (v : ℕ) → v < length nodes → map (numbered_path nodes) (needs_in lists v) ≡ needs_of (numbered_path nodes v) (numbered_group nodes v)

-- what the first of these numbered groups whose target is the group after it says of that target
abbrev pub extension_after : List GroupAt → ℕ → List ℕ → Option Extension
extension_after nodes = extension_along (numbered_path nodes) (numbered_group nodes)

abbrev pub extension_in : List GroupAt → List ℕ → Option Extension
extension_in nodes = extension_around (numbered_path nodes) (numbered_group nodes)
