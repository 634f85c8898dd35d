-- Where a tree breaks a rule of extension, and when it breaks none.
use Rattle.std.specs.Prelude.{◌≡◌, ◌<◌, ◌≤◌, ℕ, List, [], Some, min, slice_get}
use Rattle.std.specs.FinMap as finite
use Rattle.ring.specs.Routes.{IsRing, HasNoRing}
use Rattle.ring.specs.Values.{most_total}
use Rattle.tk_io.specs.Order.{names_cmp}
use Rattle.token_tree.specs.Tree.{Extension, Group}
use Rattle.group_inherit.specs.Flattening.{Flattened, flat_of}
use Rattle.group_inherit.specs.declared.fault.TreeFault.{TreeFault}
use Rattle.group_inherit.specs.declared.fault.TreeFault.TheVariants.{ExtendsTarget, ExtendsCycle, TooManyTokens, TooHigh, NoMemory}
use Rattle.group_inherit.specs.Expansion.{Expands}
use Rattle.group_inherit.specs.Extension.{GroupPath, Lost, needs, lost_targets, Counts, Heights, ring_extension}
use Rattle.group_inherit.specs.Span.{Span, span_of}

-- how many members an expanded tree may have, overridden ones included, and how many levels
abbrev pub most_members : ℕ
most_members = 16384

abbrev pub most_levels : ℕ
most_levels = 64

-- the greatest number of members that is told: what larger totals are shown as
abbrev pub most_told : ℕ
most_told = most_total

-- the first of these groups is at the path, and names its target at the span
abbrev pub IsFirstLost : List Lost → GroupPath → Span → Type 0
IsFirstLost losts path span = (e : Extension) × (slice_get losts 0 ≡ Some (record { path = path; extension = e })) × (span ≡ span_of e)

-- The groups need each other in a ring: this is the first one, and the span is that of the first of its groups whose target
-- is the ring's next group.
abbrev pub IsRingAt : Group → List GroupPath → Span → Type 0
IsRingAt tree ring span = IsRing (needs tree) [] ring × ((e : Extension) × (ring_extension tree ring ≡ Some e) × (span ≡ span_of e))

-- no groups of the tree need each other in a ring
abbrev pub IsAcyclic : Group → Type 0
IsAcyclic tree = HasNoRing (needs tree) []

-- a tree's count, which is not too large
abbrev pub IsCounted : Group → Type 0
IsCounted tree = (n : ℕ) × Counts tree [] n × (n ≤ most_members)

-- a tree's height, which is not too large
abbrev pub IsLow : Group → Type 0
IsLow tree = (n : ℕ) × Heights tree [] n × (n ≤ most_levels)

-- The rule that a tree breaks first, in the order of targets, rings, counts and heights. Memory may always run out.
abbrev pub IsTreeBreak : Group → TreeFault → Type 0
IsTreeBreak tree (ExtendsTarget path span) = IsFirstLost (lost_targets tree) path span
IsTreeBreak tree (ExtendsCycle ring span) = (lost_targets tree ≡ []) × IsRingAt tree ring span
IsTreeBreak tree (TooManyTokens shown) = (lost_targets tree ≡ []) × IsAcyclic tree × ((n : ℕ) × Counts tree [] n × (most_members < n) × (shown ≡ min n most_told))
IsTreeBreak tree (TooHigh height) = (lost_targets tree ≡ []) × IsAcyclic tree × IsCounted tree × (Heights tree [] height × (most_levels < height))
IsTreeBreak tree NoMemory = Unit {0}

-- a tree that breaks none
pub record IsSound (tree : Group) : Type 0 where
  pub targets : lost_targets tree ≡ []
  pub rings : IsAcyclic tree
  pub counted : IsCounted tree
  pub low : IsLow tree

-- the flat tree of a tree: that of the root's expansion
abbrev pub IsFlat : Group → finite.FinMap names_cmp Flattened → Type 0
IsFlat tree flat = (e : Group) × Expands tree [] e × (flat ≡ flat_of e)
