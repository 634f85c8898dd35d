-- Where a path stands among the tokens of a flat tree.
use Rattle.std.specs.Prelude.{◌≡◌, ◌≢◌, ℕ, ◌<◌, List, Option, Some, None, length, slice_index_or}
use Rattle.std.specs.FinMap as finite
use Rattle.std.specs.FinMap.Entries.{find}
use Rattle.std.specs.List.{AllWithin}
use Rattle.std.specs.declared.cmp.Ordering.TheVariants.{Less}
use Rattle.tk_io.specs.Order.{names_cmp}
use Rattle.group_inherit.specs.Flattening.{TokenAt}
use Rattle.alias_ref.specs.Laws.{Flat}
use Rattle.alias_ref.specs.Unchanged.{raw_of, raw_in}
use Rattle.alias_ref.specs.Written.{Step}

-- the tokens before a place stand before the path
abbrev pub IsPassed : List TokenAt → List Step → ℕ → Type 0
IsPassed tokens path at = AllWithin (λ token. names_cmp token.0 path ≡ Less) tokens 0 at

-- .. and before each path behind it
abbrev pub ArePassed : List TokenAt → List Step → ℕ → Type 0
ArePassed tokens path at = (next : List Step) → names_cmp path next ≡ Less → IsPassed tokens next at

-- at this place, or at none
abbrev pub IsPlaceOf : List TokenAt → List Step → Option ℕ → Type 0
IsPlaceOf tokens path None = find names_cmp path tokens ≡ None
IsPlaceOf tokens path (Some i) =
    (i < length tokens) × ((d : TokenAt) → (slice_index_or tokens i d).0 ≡ path)
    × ((d : TokenAt) → find names_cmp path tokens ≡ Some (slice_index_or tokens i d).1)

-- a token of the same path and raw entry stands at this place of the tree, or none does
abbrev pub IsSameAt : Flat → TokenAt → Option ℕ → Type 0
IsSameAt old token None = raw_in old token.0 ≢ Some (raw_of token.1)
IsSameAt old token (Some i) =
    (i < length (finite.entries old)) × ((d : TokenAt) → (slice_index_or (finite.entries old) i d).0 ≡ token.0)
    × ((d : TokenAt) → raw_of (slice_index_or (finite.entries old) i d).1 ≡ raw_of token.1)
