-- Laws of what trees come to.
use Rattle.std.specs.Prelude.{◌≡◌, ◌≢◌, ◌⊎◌, ℕ, List, [], ◌∷◌, ◌++◌, Option, None, Some, map as map_list, All, T}
use Rattle.std.specs.FinMap as map
use Rattle.std.specs.FinMap.{is_sorted}
use Rattle.ring.specs.Lists.{In}
use Rattle.tk_io.specs.Order.{names_cmp}
use Rattle.json_span.specs.Tree.{Placed}
use Rattle.token_tree.specs.Shape.{shape_of}
use Rattle.token_tree.specs.Tree.{Properties, Child, a_token, a_group, Group, Named, group_with, child_at}
use Rattle.group_inherit.specs.declared.fault.TreeFault.{TreeFault}
use Rattle.group_inherit.specs.declared.fault.TreeFault.TheVariants.{NoMemory}
use Rattle.group_inherit.specs.Answer.{IsTreeBreak, IsSound, IsFlat}
use Rattle.group_inherit.specs.Expansion.{Expands}
use Rattle.group_inherit.specs.Extension.{GroupPath, group_at, at_path, groups_from, extension_of, target_path, Lost, lost_targets}
use Rattle.group_inherit.specs.Flattening.{Flattened, flattened_at, tokens_in, nothing_above}
use Rattle.group_inherit.specs.Merging.{over, empty_group, merged, member_at, stands}
use Rattle.group_inherit.specs.Ordered.{IsOrdered}

-- Merging.

-- in one group over another stands, at each name, what the two groups have there
abbrev pub IsOverByName : Type 0
IsOverByName = (later earlier : Group) (name : List ℕ) → member_at name (over later earlier) ≡ stands (member_at name later) (member_at name earlier)

-- at a name stands the first member of the name, in the order of the members
abbrev pub IsFirstOfName : Type 0
IsFirstOfName = (name : List ℕ) (g : Group) → member_at name g ≡ child_at name g

-- no source is the empty group, and one source more stands over what those before it come to
abbrev pub SourcesInOrder : Type 0
SourcesInOrder = (merged [] ≡ empty_group) × ((sources : List Group) (last : Group) → merged (sources ++ last ∷ []) ≡ over last (merged sources))

-- one source alone comes to itself, and so a file alone to its own shape
abbrev pub OneSourceIsItself : Type 0
OneSourceIsItself = (ps : Properties) (members : Named) → merged (group_with ps members ∷ []) ≡ group_with ps members

abbrev pub OneFileIsItsShape : Type 0
OneFileIsItsShape = (file text : List ℕ) (root : Placed) → merged (shape_of file text root ∷ []) ≡ shape_of file text root

-- Order: the members of each group ascend in the tree that a file shows, in one tree over another, in merged sources, and
-- in what a group expands to.
abbrev pub ShapesAreOrdered : Type 0
ShapesAreOrdered = (file text : List ℕ) (root : Placed) → IsOrdered (shape_of file text root)

abbrev pub MergedAreOrdered : Type 0
MergedAreOrdered = ((later earlier : Group) → IsOrdered later → IsOrdered earlier → IsOrdered (over later earlier))
    × ((sources : List Group) → All IsOrdered sources → IsOrdered (merged sources))

abbrev pub ExpandedAreOrdered : Type 0
ExpandedAreOrdered = (tree : Group) (path : GroupPath) (e : Group) → Expands tree path e → IsOrdered e

-- Expansion.

-- what a member of a group comes to below this path: a token to itself, and a child group to its expansion
abbrev pub IsOwn : Group → GroupPath → Option Child → Option Child → Type 0
IsOwn tree path None own = own ≡ None
IsOwn tree path (Some (a_token d)) own = own ≡ Some (a_token d)
IsOwn tree path (Some (a_group g)) own = (e : Group) × Expands tree path e × (own ≡ Some (a_group e))

-- what the expansion of a target has at a name, where there is a target
abbrev pub IsOfTarget : Group → List ℕ → Option GroupPath → Option Child → Type 0
IsOfTarget tree name None inherited = inherited ≡ None
IsOfTarget tree name (Some path) inherited = (e : Group) × Expands tree path e × (inherited ≡ member_at name e)

-- At each name of an expanded group stands its own token, or the expansion of its child group there over what the target has
-- there, or, where it has no member of the name, what the target has there.
abbrev pub ExpandedByName : Type 0
ExpandedByName = (tree : Group) (path : GroupPath) (e : Group) (name : List ℕ) → Expands tree path e → (own inherited : Option Child)
    × IsOwn tree (path ++ name ∷ []) (member_at name (at_path tree path)) own × IsOfTarget tree name (target_path (at_path tree path)) inherited
    × (member_at name e ≡ stands own inherited)

-- a group has one expansion
abbrev pub OneExpansion : Type 0
OneExpansion = (tree : Group) (path : GroupPath) (e f : Group) → Expands tree path e → Expands tree path f → e ≡ f

-- The flat tree.

-- at each path stands the token to which its names lead in the expanded tree, with what the nearest groups on the way say
abbrev pub FlatByPath : Type 0
FlatByPath = (tree e : Group) (flat : map.FinMap names_cmp Flattened) → IsFlat tree flat → Expands tree [] e → (path : GroupPath) → map.get flat path ≡ flattened_at path e

-- as a list it has the tokens of the expanded tree in the order of their paths, which ascend
abbrev pub FlatAsList : Type 0
FlatAsList = (tree e : Group) (flat : map.FinMap names_cmp Flattened) → IsFlat tree flat → Expands tree [] e
    → (map.entries flat ≡ tokens_in [] nothing_above e) × T (is_sorted names_cmp (tokens_in [] nothing_above e))

-- Lost targets.

-- the groups of a tree are listed in the order of their paths, and so are those whose targets are lost
abbrev pub LostAscend : Type 0
LostAscend = (tree : Group) → IsOrdered tree → T (is_sorted names_cmp (groups_from [] tree)) × T (is_sorted names_cmp (map_list (λ l. (l.path, l.extension)) (lost_targets tree)))

-- a group of the tree names a target, which is no group of the tree
pub record LosesTarget (tree : Group) (lost : Lost) : Type 0 where
  pub group : Group
  pub stands_there : group_at tree lost.path ≡ Some group
  pub extends_it : extension_of group ≡ Some lost.extension
  pub nowhere : group_at tree lost.extension.target ≡ None

-- just these are listed
abbrev pub LostAreAll : Type 0
LostAreAll = (tree : Group) (lost : Lost) → IsOrdered tree → (In lost (lost_targets tree) → LosesTarget tree lost) × (LosesTarget tree lost → In lost (lost_targets tree))

-- Answers.

-- a tree has one flat tree
abbrev pub OneFlat : Type 0
OneFlat = (tree : Group) (f g : map.FinMap names_cmp Flattened) → IsFlat tree f → IsFlat tree g → f ≡ g

-- a tree breaks one rule first
abbrev pub OneBreak : Type 0
OneBreak = (tree : Group) (a b : TreeFault) → a ≢ NoMemory → b ≢ NoMemory → IsTreeBreak tree a → IsTreeBreak tree b → a ≡ b

-- a tree that is sound breaks no rule
abbrev pub SoundIsUnbroken : Type 0
SoundIsUnbroken = (tree : Group) (a : TreeFault) → IsSound tree → a ≢ NoMemory → IsTreeBreak tree a → ⊥

-- a tree breaks a rule
abbrev pub HasBreak : Group → Type 0
HasBreak tree = (broken : TreeFault) × (broken ≢ NoMemory) × IsTreeBreak tree broken

-- a tree is sound, and has a flat tree
abbrev pub HasFlat : Group → Type 0
HasFlat tree = (flat : map.FinMap names_cmp Flattened) × IsSound tree × IsFlat tree flat

-- each tree in which the members of each group ascend has the one or the other
abbrev pub EachTreeAnswers : Type 0
EachTreeAnswers = (tree : Group) → IsOrdered tree → HasBreak tree ⊎ HasFlat tree
