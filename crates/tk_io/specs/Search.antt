-- Where a search of a list in order ends: for the maps here, and for those of other crates.
use Rattle.std.specs.Prelude.{◌≡◌, ℕ, List, length, Result, MatchResult}
use Rattle.std.specs.declared.cmp.Ordering.{Ordering}
use Rattle.std.specs.declared.cmp.Ordering.TheVariants.{Less, Equal, Greater}
use Rattle.std.specs.List.{HoldsAt}
use Rattle.std.specs.List.Sorted.{IsPartitionPoint, IsSearchInRange}

-- at an item that compares as equal, or between those that compare as less and those that compare as greater
abbrev pub IsKeyPlace : {E : Type 0} → (E → Ordering) → List E → Result ℕ ℕ → Type 0
IsKeyPlace order items r =
    IsSearchInRange r (length items)
    × MatchResult r (HoldsAt (λ e. order e ≡ Equal) items) (λ i. IsPartitionPoint (λ e. order e ≡ Less) (λ e. order e ≡ Greater) items i)
