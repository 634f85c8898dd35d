-- What a reading begins with.
use Rattle.std.proofs.Common.{◌≡◌, ℕ, List, [], ◌∷◌, Bool, true, false, inl, inr, refl}
use Rattle.grammar.specs.Grammar.{Rule, alt, Reads}
use Rattle.grammar.specs.Predict.{begins, first, nullable, Apart}
use Rattle.grammar.specs.Ranges.{is_steered}
use Rattle.grammar.proofs.Predicts.{starts}
use Rattle.grammar.proofs.Tables.{steered_from}
use Rattle.json_span.specs.Grammar.{Name}
use Rattle.json_span.specs.Predictive.{rules, table, ahead}
use Rattle.json_span.proofs.Predictive.{honest_json}

pub both_ways : (b : Bool) → b ≡ true → b ≡ false → ⊥
both_ways b e f = cc

-- a byte begins what isn't empty
pub begun : (r : Rule Name) {t u : List ℕ} → nullable r ≡ false → Reads rules r t u → begins (first ahead r) t ≡ true
begun r {t} n x = elim (starts rules ahead honest_json x) as (λ _. begins (first ahead r) t ≡ true) [ inl f ↦ f | inr (e, z) ↦ absurd (both_ways (nullable r) z n) ]

not_both : (p q : ℕ → Bool) → Apart p q → (t : List ℕ) → begins p t ≡ true → begins q t ≡ true → ⊥
not_both p q f [] e h = both_ways false h refl
not_both p q f (c ∷ t) e h = both_ways (p c) e (f c h)

-- no text begins two ways
pub one_way : (r s : Rule Name) (t : List ℕ) → is_steered table (alt r s) ≡ true → begins (first ahead r) t ≡ true → begins (first ahead s) t ≡ true → ⊥
one_way r s t st e f = not_both (first ahead r) (first ahead s) (steered_from table (alt r s) st).2 t e f
