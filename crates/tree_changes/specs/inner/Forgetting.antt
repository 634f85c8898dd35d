-- Places that are forgotten.
use Rattle.std.specs.Prelude.{◌≡◌, ◌⊎◌, ℕ, List, Option, Some, None, slice_get, length}
use Rattle.ring.specs.Lists.{In}

-- it is among those to forget, and there is none, or it is not, and stays
abbrev pub IsForgotten : List ℕ → List (Option ℕ) → List (Option ℕ) → ℕ → Type 0
IsForgotten nodes old new i =
    (In i nodes × (slice_get new i ≡ Some None)) ⊎ ((In i nodes → ⊥) × (slice_get new i ≡ slice_get old i))

-- of each place
pub record AreForgotten (nodes : List ℕ) (old new : List (Option ℕ)) : Type 0 where
  pub long : length new ≡ length old
  pub each : (i : ℕ) → IsForgotten nodes old new i
