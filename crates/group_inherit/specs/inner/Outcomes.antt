-- What the private calls answer.
use Rattle.std.specs.Prelude.{◌≡◌, ◌++◌, ◌∷◌, [], ℕ, List, Option, Some, length, map as map_list, drop, option_map, slice_index, min}
use Rattle.std.specs.Borrow.{Bor}
use Rattle.std.specs.FinMap as map
use Rattle.std.specs.FinMap.Entries.{put}
use Rattle.std.specs.declared.alloc.Global.{Global}
use Rattle.std.specs.declared.vec.Vec.{Vec}
use Rattle.ring.specs.Lists.{In}
use Rattle.tk_io.specs.Order.{names_cmp}
use Rattle.token_tree.specs.View.{extends_view, child_view, member_view, group_view}
use Rattle.token_tree.specs.Tree.{Extension, Definition, Named, Children, a_group, Group as GroupData, children_of}
use Rattle.token_tree.specs.declared.tree.Child.{Child}
use Rattle.token_tree.specs.declared.tree.Extends.{Extends}
use Rattle.token_tree.specs.declared.tree.Group.{Group}
use Rattle.token_tree.specs.declared.tree.Member.{Member}
use Rattle.group_inherit.specs.Answer.{most_told}
use Rattle.group_inherit.specs.Expansion.{Expands, AreExpanded}
use Rattle.group_inherit.specs.Extension.{GroupPath, at_path, children_in, group_names, names_of_groups, child_paths, paths_below, target_path, groups_from, how_many, height_of, Heights}
use Rattle.group_inherit.specs.Flattening.{Flattened, TokenAt, flattened, tokens_in, tokens_at}
use Rattle.group_inherit.specs.Merging.{children_by_name, over_members, over_child}
use Rattle.group_inherit.specs.Putting.{put_all}
use Rattle.group_inherit.specs.View.{FlatTokens}
use Rattle.group_inherit.specs.declared.checked.ReadyTree.{ReadyTree}
use Rattle.group_inherit.specs.declared.numbered.Node.{Node}
use Rattle.group_inherit.specs.declared.targets.Row.{Row}
use Rattle.group_inherit.specs.declared.walking.Nearest.{Nearest}
use Rattle.group_inherit.specs.inner.Checking.{IsChecked}
use Rattle.group_inherit.specs.inner.Numbering.{GroupAt, Places, numbered_group, numbered_path}
use Rattle.group_inherit.specs.inner.Tables.{tabled_group, HaveExpansions, HasTarget}
use Rattle.group_inherit.specs.inner.View.{nodes_view, nearest_view}

-- Merging.

-- members of both groups
abbrev pub AreOver : Named → Named → Named → Type 0
AreOver later earlier members = members ≡ over_members (children_of (map.entries later)) earlier

-- the members of a list from the i-th on are put
abbrev pub AreMembersAdded : List Member → ℕ → Named → Named → Type 0
AreMembersAdded list i old new = new ≡ put_all (drop i (map_list member_view list)) old

abbrev pub IsMemberAdded : Member → Named → Named → Type 0
IsMemberAdded m old new = new ≡ map.insert old m.name (child_view m.child)

abbrev pub IsGroupAdded : List ℕ → Group → Named → Named → Type 0
IsGroupAdded name g old new = new ≡ map.insert old name (a_group (group_view g))

-- the later member over the earlier one is put
abbrev pub IsOverAdded : Member → Member → Named → Named → Type 0
IsOverAdded later earlier old new = new ≡ map.insert old later.name (over_child (child_view later.child) (Some (child_view earlier.child)))

-- the target that a group names is another's, or both name none
abbrev pub IsSameTarget : Option Extends → Option Extends → Type 0
IsSameTarget one other = option_map extends_view other ≡ option_map extends_view one

-- Numbered groups.

-- what a group says of its target, looked at
abbrev pub extension_view : Option (Bor Extends) → Option Extension
extension_view o = option_map (λ e. extends_view e.now) o

abbrev pub AreGroupsOf : Group → List Node → Type 0
AreGroupsOf tree nodes = nodes_view nodes ≡ groups_from [] (group_view tree)

abbrev pub AreGroupsAdded : GroupPath → Group → Vec Node Global → Vec Node Global → Type 0
AreGroupsAdded path g old new = nodes_view new.items ≡ nodes_view old.items ++ groups_from path (group_view g)

-- the numbers of a group's child groups
abbrev pub AreChildNumbers : Places → GroupAt → List ℕ → Type 0
AreChildNumbers places n row = map_list (λ v. Some v) row ≡ map_list (λ name. map.get places (n.0 ++ name ∷ [])) (group_names n.1)

abbrev pub own_counts : List GroupAt → List ℕ
own_counts nodes = map_list (λ n. how_many (children_in n.1)) nodes

-- a group's height from those that a table has of what it needs, or the most that is told
abbrev pub capped_height : GroupData → List ℕ → List ℕ → ℕ
capped_height g table needs = min (height_of g (map_list (λ w. slice_index table w) needs)) most_told

-- the height of the group at a path of a tree, or the most that is told
abbrev pub IsHeight : GroupData → GroupPath → ℕ → Type 0
IsHeight tree path shown = (n : ℕ) × Heights tree path n × (shown ≡ min n most_told)

-- the table has the height of a numbered group
abbrev pub HoldsHeight : List GroupAt → List ℕ → ℕ → Type 0
HoldsHeight nodes table v = IsHeight (numbered_group nodes 0) (numbered_path nodes v) (slice_index table v)

-- .. of each group of the order
abbrev pub AreHeights : List Node → List ℕ → List ℕ → Type 0
AreHeights nodes order table = (v : ℕ) → In v order → HoldsHeight (nodes_view nodes) table v

abbrev pub IsReady : GroupData → ReadyTree → Type 0
IsReady tree r = IsChecked tree (nodes_view r.nodes.items) r.rows.items r.order.items

-- Expansion.

-- the table has the expansion of a numbered group
abbrev pub HoldsExpansion : List GroupAt → List Group → ℕ → Type 0
HoldsExpansion nodes table v = Expands (numbered_group nodes 0) (numbered_path nodes v) (tabled_group table v)

-- .. of each group of the order
abbrev pub AreExpansions : List Node → List ℕ → List Group → Type 0
AreExpansions nodes order table = (v : ℕ) → In v order → HoldsExpansion (nodes_view nodes) table v

-- Wherever the group stands in a tree, and the table has the expansions of what the row names, this is its expansion.
abbrev pub IsExpansion : Group → List Group → Row → Group → Type 0
IsExpansion g table row made = (tree : GroupData) (path : GroupPath) → at_path tree path ≡ group_view g
    → HaveExpansions tree table (child_paths path (group_view g)) row.children.items
    → HasTarget tree table (target_path (group_view g)) row.target
    → Expands tree path (group_view made)

-- there is a number for each group among the members
abbrev pub HaveNumbers : Named → List ℕ → Type 0
HaveNumbers members numbers = length numbers ≡ length (names_of_groups (children_of (map.entries members)))

-- the members of a group at a path, with the expansion of each child group in its place
pub record HasMembers (tree : GroupData) (path : GroupPath) (cs : Children) (made : Named) : Type 0 where
  pub members : Children
  pub are : AreExpanded tree path cs members
  pub same : made ≡ children_by_name members

-- Wherever the members stand in a tree, and the table has the expansions of their groups, these are the expanded members.
abbrev pub AreExpandedMembers : Named → List Group → List ℕ → Named → Type 0
AreExpandedMembers members table numbers made = (tree : GroupData) (path : GroupPath)
    → HaveExpansions tree table (paths_below path (children_of (map.entries members))) numbers
    → HasMembers tree path (children_of (map.entries members)) made

-- Flat trees.

abbrev pub IsPutInto : GroupPath → Flattened → List TokenAt → List TokenAt → Type 0
IsPutInto path t old new = new ≡ put names_cmp path t old

abbrev pub TokenPut : GroupPath → Nearest → Definition → FlatTokens → FlatTokens → Type 0
TokenPut path near d old new = new ≡ map.insert old path (flattened (nearest_view near) d)

-- the tokens of a child, and of a group, are put
abbrev pub ChildPut : GroupPath → Nearest → Child → FlatTokens → FlatTokens → Type 0
ChildPut path near c old new = new ≡ put_all (tokens_at path (nearest_view near) (child_view c)) old

abbrev pub GroupPut : GroupPath → Nearest → Group → FlatTokens → FlatTokens → Type 0
GroupPut path above g old new = new ≡ put_all (tokens_in path (nearest_view above) (group_view g)) old
