-- What groups need, what is counted of them, and which group of a ring is told, in the words of the rules on `$extends` (Format
-- Module 2025.10). The laws stand here, where the trees of sources are merged and judged.
use Rattle.std.specs.Prelude.{◌≡◌, ◌+◌, ℕ, List, [], ◌∷◌, ◌++◌, map, sum, length, Some, option_to_list}
use Rattle.std.specs.List.{AllZip}
use Rattle.std.specs.declared.cmp.Ordering.TheVariants.{Less}
use Rattle.ring.specs.Lists.{In}
use Rattle.tk_io.specs.Order.{text_cmp}
use Rattle.token_tree.specs.Tree.{Extension, a_group, Group, child_at}
use Rattle.group_inherit.specs.Extension.{GroupPath, at_path, children_in, extension_of, target_path, needs, Counts, ring_extension}
use Rattle.group_inherit.specs.Ordered.{IsOrdered, child_entries}

-- the names ascend
abbrev pub Ascend : List (List ℕ) → Type 0
Ascend [] = Unit {0}
Ascend (name ∷ names) = ((other : List ℕ) → In other names → text_cmp name other ≡ Less) × Ascend names

-- A group needs its child groups, by names that ascend and are just those at which groups stand, and then its target.
pub record NeedsInOrder (tree : Group) (path : GroupPath) : Type 0 where
  pub names : List (List ℕ)
  pub are : needs tree path ≡ map (λ name. path ++ name ∷ []) names ++ option_to_list (target_path (at_path tree path))
  pub ascend : Ascend names
  pub groups : (name : List ℕ) → In name names → (g : Group) × (child_at name (at_path tree path) ≡ Some (a_group g))
  pub all : (name : List ℕ) (g : Group) → child_at name (at_path tree path) ≡ Some (a_group g) → In name names

abbrev pub NeedsAreInOrder : Type 0
NeedsAreInOrder = (tree : Group) (path : GroupPath) → IsOrdered tree → NeedsInOrder tree path

-- A group's count is the number of its members, whatever overrides them, and the counts of all that it needs.
pub record IsCountOf (tree : Group) (path : GroupPath) (n : ℕ) : Type 0 where
  pub counts : List ℕ
  pub each : AllZip (Counts tree) (needs tree path) counts
  pub total : n ≡ length (child_entries (children_in (at_path tree path))) + sum counts

abbrev pub CountsAreSums : Type 0
CountsAreSums = (tree : Group) (path : GroupPath) (n : ℕ) → Counts tree path n → IsCountOf tree path n

-- the group that follows in a ring, in which the first one follows the last
abbrev pub next_of : GroupPath → List GroupPath → GroupPath
next_of first [] = first
next_of first (next ∷ others) = next

-- the group at the path extends the next one
abbrev pub ExtendsNext : Group → GroupPath → GroupPath → Extension → Type 0
ExtendsNext tree path next e = (extension_of (at_path tree path) ≡ Some e) × (e.target ≡ next)

-- What is told of a ring is said by one of its groups, whose target is the ring's next group; no group before it has such a
-- target.
pub record IsFirstThatExtends (tree : Group) (first : GroupPath) (ring : List GroupPath) (e : Extension) : Type 0 where
  pub before : List GroupPath
  pub path : GroupPath
  pub after : List GroupPath
  pub is_ring : ring ≡ before ++ path ∷ after
  pub extends : ExtendsNext tree path (next_of first after) e
  pub none_before : (front : List GroupPath) (other : GroupPath) (back : List GroupPath) (x : Extension) → before ≡ front ++ other ∷ back
      → ExtendsNext tree other (next_of first (back ++ path ∷ after)) x → ⊥

abbrev pub RingsTellFirst : Type 0
RingsTellFirst = (tree : Group) (first : GroupPath) (others : List GroupPath) (e : Extension) → ring_extension tree (first ∷ others) ≡ Some e
    → IsFirstThatExtends tree first (first ∷ others) e
