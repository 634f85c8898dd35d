-- Texts cut into pieces.
use Rattle.std.specs.Prelude.{◌≡◌, ◌≢◌, ℕ, List, [], ◌∷◌, ◌++◌, ◌⊎◌, All}
use Rattle.tk_io.specs.Characters.{full_stop}
use Rattle.name_path.specs.Reference.{value_step}

-- no text holds the byte
abbrev pub EachLacks : ℕ → List (List ℕ) → Type 0
EachLacks byte texts = All (λ text. All (λ b. b ≢ byte) text) texts

-- one or more texts without '.'
abbrev pub ArePlain : List (List ℕ) → Type 0
ArePlain texts = (texts ≢ []) × EachLacks full_stop texts

-- no text is this one
abbrev pub LacksStep : List ℕ → List (List ℕ) → Type 0
LacksStep step texts = All (λ text. text ≢ step) texts

-- the steps before the first `$value` and those after it
abbrev pub IsValueCut : List (List ℕ) → List (List ℕ) → List (List ℕ) → Type 0
IsValueCut steps before behind = LacksStep value_step before × ((steps ≡ before ++ value_step ∷ behind) ⊎ ((steps ≡ before) × (behind ≡ [])))
