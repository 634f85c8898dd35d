-- Where a text stops being a viable prefix.
use Rattle.std.specs.Prelude.{ℕ, ◌<◌, ◌≤◌, List, length, take, drop, ◌⊎◌}
use Rattle.grammar.specs.Grammar.{Rule, Derives, IsFront}
use Rattle.grammar.specs.Predict.{Ahead, Steers, Stuck}

-- the longest viable prefix of the text has this length
pub record IsStop {N : Type 0} (grammar : N → Rule N) (r : Rule N) (text : List ℕ) (at : ℕ) : Type 0 where
  pub within_text : at ≤ length text
  pub front : IsFront grammar r (take at text)
  pub longest : (j : ℕ) → at < j → j ≤ length text → IsFront grammar r (take j text) → ⊥

-- the rule doesn't derive the text, and its longest viable prefix has this length
pub record Refuses {N : Type 0} (grammar : N → Rule N) (r : Rule N) (text : List ℕ) (at : ℕ) : Type 0 where
  pub no_reading : Derives grammar r text → ⊥
  pub stop : IsStop grammar r text at

-- The predictive reading gets stuck there, or is done there before the end.
abbrev pub Stops : {N : Type 0} → (N → Rule N) → Ahead N → Rule N → List ℕ → ℕ → Type 0
Stops grammar a r text at = (at ≤ length text) × (Stuck grammar a r text (drop at text) ⊎ (Steers grammar a r text (drop at text) × (at < length text)))
