-- The groups of a tree, and what each needs of the others (Format Module 2025.10, `$extends`). A group is named by its path,
-- the root by the empty one.
use Rattle.std.specs.Prelude.{ℕ, suc, ◌+◌, max, Bool, true, false, if◌then◌else◌, List, [], ◌∷◌, ◌++◌, map, sum, Option, Some, None, is_some, unwrap_or, option_map, option_and_then, option_to_list}
use Rattle.std.specs.Cmp.Lexicographic.{pointwise}
use Rattle.std.specs.Str.{bytes_eq}
use Rattle.token_tree.specs.Tree.{Extension, Child, a_token, a_group, Group, group, Children, no_children, child}
use Rattle.group_inherit.specs.Merging.{either, member_at, empty_group}
use Rattle.ring.specs.Values.{Comes}

abbrev pub GroupPath : Type 0
GroupPath = List (List ℕ)

-- the group of a child that is one
abbrev pub as_group : Child → Option Group
as_group (a_token d) = None
as_group (a_group g) = Some g

-- the group at a path below a group
abbrev pub group_at : Group → GroupPath → Option Group
group_at g [] = Some g
group_at g (name ∷ path) = option_and_then (λ h. group_at h path) (option_and_then as_group (member_at name g))

-- the same, or the empty group where there is none
abbrev pub at_path : Group → GroupPath → Group
at_path tree path = unwrap_or (group_at tree path) empty_group

-- All groups with their paths, in path order.

abbrev mutual
  -- a group that stands at a path, and those below it
  pub groups_from : GroupPath → Group → List (GroupPath × Group)
  groups_from path (group ps cs) = (path, group ps cs) ∷ groups_among path cs

  pub groups_among : GroupPath → Children → List (GroupPath × Group)
  groups_among path no_children = []
  groups_among path (child name c cs) = groups_in (path ++ name ∷ []) c ++ groups_among path cs

  pub groups_in : GroupPath → Child → List (GroupPath × Group)
  groups_in path (a_token d) = []
  groups_in path (a_group g) = groups_from path g

-- the paths of all groups of a tree, in path order
abbrev pub group_paths : Group → List GroupPath
group_paths tree = map (λ e. e.0) (groups_from [] tree)

-- What a group needs.

abbrev pub children_in : Group → Children
children_in (group ps cs) = cs

abbrev pub extension_of : Group → Option Extension
extension_of (group ps cs) = ps.extends

abbrev pub name_of_group : List ℕ → Child → List (List ℕ)
name_of_group name (a_token d) = []
name_of_group name (a_group g) = name ∷ []

-- the names of the child groups, in the order of the children
abbrev pub names_of_groups : Children → List (List ℕ)
names_of_groups no_children = []
names_of_groups (child name c cs) = name_of_group name c ++ names_of_groups cs

abbrev pub group_names : Group → List (List ℕ)
group_names g = names_of_groups (children_in g)

-- the group that a group extends, where it extends one
abbrev pub target_path : Group → Option GroupPath
target_path g = option_map (λ e. e.target) (extension_of g)

-- the paths of the child groups of a group at a path, in the order of the children
abbrev pub paths_below : GroupPath → Children → List GroupPath
paths_below path cs = map (λ name. path ++ name ∷ []) (names_of_groups cs)

abbrev pub child_paths : GroupPath → Group → List GroupPath
child_paths path g = paths_below path (children_in g)

-- what a group at a path needs: its child groups in byte order of names, and then its target
abbrev pub needs_of : GroupPath → Group → List GroupPath
needs_of path g = child_paths path g ++ option_to_list (target_path g)

-- .. of a tree; nothing where no group is at the path
abbrev pub needs : Group → GroupPath → List GroupPath
needs tree path = needs_of path (at_path tree path)

-- Targets that are no group.

-- a group whose target is not there, and what it says of the target
pub record Lost : Type 0 where
  pub path : GroupPath
  pub extension : Extension

abbrev pub lost_unless : Bool → GroupPath → Extension → List Lost
lost_unless true path e = []
lost_unless false path e = record { path = path; extension = e } ∷ []

-- what is lost at a path, and of these groups, where just the paths that pass the test are groups
abbrev pub lost_at : (GroupPath → Bool) → GroupPath → Option Extension → List Lost
lost_at is_group path None = []
lost_at is_group path (Some e) = lost_unless (is_group e.target) path e

abbrev pub lost_among : (GroupPath → Bool) → List (GroupPath × Group) → List Lost
lost_among is_group [] = []
lost_among is_group (g ∷ gs) = lost_at is_group g.0 (extension_of g.1) ++ lost_among is_group gs

abbrev pub has_group : Group → GroupPath → Bool
has_group tree path = is_some (group_at tree path)

-- each group whose target is no group of the tree, in path order
unfoldable pub lost_targets : Group → List Lost
lost_targets tree = lost_among (has_group tree) (groups_from [] tree)

-- Counts: a group has one for each member, what each child group has, and what its target has. Overridden members count too.

abbrev pub how_many : Children → ℕ
how_many no_children = 0
how_many (child name c cs) = suc (how_many cs)

abbrev pub count_of : Group → List ℕ → ℕ
count_of g counts = how_many (children_in g) + sum counts

-- the count of the group at a path of a tree
abbrev pub Counts : Group → GroupPath → ℕ → Type 0
Counts tree = Comes (needs tree) (λ path counts. count_of (at_path tree path) counts)

-- Heights: the greatest of 0, 1 for a token, 1 more than that of each child group, and that of the target.

abbrev pub token_height : Child → ℕ
token_height (a_token d) = 1
token_height (a_group g) = 0

abbrev pub tokens_height : Children → ℕ
tokens_height no_children = 0
tokens_height (child name c cs) = max (token_height c) (tokens_height cs)

abbrev pub greatest : List ℕ → ℕ
greatest [] = 0
greatest (h ∷ hs) = max h (greatest hs)

-- the greatest, where for each of these names one comes first that is raised by 1
abbrev pub greatest_raised : List (List ℕ) → List ℕ → ℕ
greatest_raised [] hs = greatest hs
greatest_raised (name ∷ names) [] = 0
greatest_raised (name ∷ names) (h ∷ hs) = max (h + 1) (greatest_raised names hs)

abbrev pub height_of : Group → List ℕ → ℕ
height_of g heights = max (tokens_height (children_in g)) (greatest_raised (group_names g) heights)

-- the height of the group at a path of a tree
abbrev pub Heights : Group → GroupPath → ℕ → Type 0
Heights tree = Comes (needs tree) (λ path heights. height_of (at_path tree path) heights)

-- Where a ring is reported.

abbrev pub same_path : GroupPath → GroupPath → Bool
same_path = pointwise bytes_eq

abbrev pub where_target : GroupPath → Extension → Option Extension
where_target next e = if same_path e.target next then Some e else None

-- what a group says of its target, where that is the next path
abbrev pub extension_to : GroupPath → Group → Option Extension
extension_to next g = option_and_then (where_target next) (extension_of g)

abbrev pub head_or : {A : Type 0} → A → List A → A
head_or x [] = x
head_or x (y ∷ ys) = y

-- .. of the first of these groups whose target is the group after it; after the last comes `first`. Groups have names of
-- any kind, each of which stands for a path and a group.
abbrev pub extension_along : {N : Type 0} → (N → GroupPath) → (N → Group) → N → List N → Option Extension
extension_along path at first [] = None
extension_along path at first (v ∷ vs) = either (extension_to (path (head_or first vs)) (at v)) (extension_along path at first vs)

-- .. of the first group of a ring whose target is the ring's next group; the first one follows the last
abbrev pub extension_around : {N : Type 0} → (N → GroupPath) → (N → Group) → List N → Option Extension
extension_around path at [] = None
extension_around path at (first ∷ vs) = extension_along path at first (first ∷ vs)

-- .. of a tree, by paths
abbrev pub ring_extension : Group → List GroupPath → Option Extension
ring_extension tree = extension_around (λ path. path) (at_path tree)
