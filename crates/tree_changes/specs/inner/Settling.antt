-- Two trees, where the tokens of the one stand in the other, and tokens from which no change is reached.
use Rattle.std.specs.Prelude.{◌≡◌, ℕ, Bool, true, List, Option, Some, None, length, slice_get}
use Rattle.std.specs.FinMap as finite
use Rattle.std.specs.List.{AllZip}
use Rattle.group_inherit.specs.Flattening.{TokenAt}
use Rattle.alias_ref.specs.Laws.{Flat}
use Rattle.alias_ref.specs.Unchanged.{AreDefinitions}
use Rattle.tree_changes.specs.Named.{AllNameAs}
use Rattle.tree_changes.specs.Reached.{IsReached}
use Rattle.tree_changes.specs.Standing.{StandsAt}
use Rattle.tree_changes.specs.declared.settling.Beside.{Beside}

-- where the token of a place of the earlier tree stands unchanged: at this place of the present one, or at none
abbrev pub IsMovedTo : List (Option ℕ) → ℕ → Option ℕ → Type 0
IsMovedTo places at None = (i : ℕ) → slice_get places i ≡ Some (Some at) → ⊥
IsMovedTo places at (Some i) = slice_get places i ≡ Some (Some at)

-- .. of each
abbrev pub AreMoved : List (Option ℕ) → List (Option ℕ) → Type 0
AreMoved places moved = (at : ℕ) (o : Option ℕ) → slice_get moved at ≡ Some o → IsMovedTo places at o

-- what is known of two trees
pub record AreBeside (side : Beside) : Type 0 where
  pub named : AllNameAs (finite.entries side.old.now) side.named.now
  pub places : AllZip (StandsAt side.old.now side.new.now) (finite.entries side.new.now) side.places.now
  pub moved : AreMoved side.places.now side.moved.now
  pub long : length side.moved.now ≡ length (finite.entries side.old.now)
  pub before : AreDefinitions side.old.now
  pub after : AreDefinitions side.new.now

-- no change is reached from each token of which that is said
abbrev pub AreSettled : Flat → Flat → List Bool → Type 0
AreSettled old new settled = (i : ℕ) (token : TokenAt) → slice_get (finite.entries new) i ≡ Some token → slice_get settled i ≡ Some true → IsReached old new token.0 → ⊥
