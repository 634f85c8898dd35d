-- Where tokens of a flat tree stand in an earlier one.
use Rattle.std.specs.Prelude.{◌≡◌, ℕ, true, Option, Some, None, slice_get}
use Rattle.std.specs.FinMap as finite
use Rattle.group_inherit.specs.Flattening.{TokenAt}
use Rattle.alias_ref.specs.Laws.{Flat}
use Rattle.alias_ref.specs.Unchanged.{raw_of}
use Rattle.tree_changes.specs.Reached.{is_changed, IsReached}

-- A token of the new tree stands unchanged at this place of the old one: there is a token of its path, whose source,
-- kind and mark are the same. Where it stands so at none its path is changed.
abbrev pub StandsAt : Flat → Flat → TokenAt → Option ℕ → Type 0
StandsAt old new token None = is_changed old new token.0 ≡ true
StandsAt old new token (Some i) =
    (there : TokenAt) × (slice_get (finite.entries old) i ≡ Some there) × (there.0 ≡ token.0) × (raw_of there.1 ≡ raw_of token.1)

-- It keeps the place, where it stands there unchanged and is not reached. Where it keeps none it is reached.
abbrev pub KeepsAt : Flat → Flat → TokenAt → Option ℕ → Type 0
KeepsAt old new token None = IsReached old new token.0
KeepsAt old new token (Some i) = (IsReached old new token.0 → ⊥) × StandsAt old new token (Some i)
