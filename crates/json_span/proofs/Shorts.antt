-- What is read of a choice of bytes, and what a short escape stands for.
use Rattle.std.proofs.Common.{◌≡◌, ℕ, ◌+◌, ◌*◌, ◌<◌, ◌≤◌, List, ◌∷◌, Bool, true, false, ◌||◌, Some, refl, ap, ◌∙◌, inl, inr, arith}
use Rattle.std.specs.Prelude.{◌⊎◌}
use Rattle.std.specs.Char.{digit_value}
use Rattle.std.proofs.lemmas.Bool.Decides.{nat_tests}
use Rattle.grammar.specs.Grammar.{Rule, empty, byte, seq, alt, many, named, within, Reads, one_byte, left, right}
use Rattle.grammar.specs.Predict.{first}
use Rattle.grammar.proofs.Steps.{IsChoice}
use Rattle.json_span.specs.Grammar.{Name, hex, not_d, short, letter_d, high_digit, low_digit}
use Rattle.json_span.specs.Predictive.{rules, ahead}
use Rattle.json_span.specs.Characters.{short_of, code_unit_of, is_high, is_low}

or_left : (a b : Bool) → a ≡ true → (a || b) ≡ true
or_left true b e = refl
or_left false b e = cc

or_right : (a b : Bool) → b ≡ true → (a || b) ≡ true
or_right true b e = refl
or_right false b e = e

pub choice_read : {r : Rule Name} {t u : List ℕ} → Reads rules r t u → IsChoice r → (c : ℕ) × (t ≡ c ∷ u) × (first ahead r c ≡ true)
choice_read {r = byte low high} (one_byte {c = c} h) ch = (c, refl, h)
choice_read {r = alt r s} (left x) (cr, cs) = let (c, e, h) = choice_read x cr in (c, e, or_left (first ahead r c) (first ahead s c) h)
choice_read {r = alt r s} (right x) (cr, cs) = let (c, e, h) = choice_read x cs in (c, e, or_right (first ahead r c) (first ahead s c) h)
choice_read {r = empty} x ch = absurd ch
choice_read {r = seq r s} x ch = absurd ch
choice_read {r = many r} x ch = absurd ch
choice_read {r = named n} x ch = absurd ch

or_cases : (a b : Bool) → (a || b) ≡ true → (a ≡ true) ⊎ (b ≡ true)
or_cases true b e = inl refl
or_cases false b e = inr e

pub is_value : (x n : ℕ) → within n n x ≡ true → x ≡ n
is_value x n h = grind (arith, nat_tests)

at_value : (x n c : ℕ) → within n n x ≡ true → short_of n ≡ Some c → (d : ℕ) × (short_of x ≡ Some d)
at_value x n c h e = (c, ap short_of (is_value x n h) ∙ e)

abbrev Short : ℕ → Type 0
Short x = (c : ℕ) × (short_of x ≡ Some c)

abbrev tail8 : ℕ → Bool
tail8 x = within 116 116 x

abbrev tail7 : ℕ → Bool
tail7 x = within 114 114 x || tail8 x

abbrev tail6 : ℕ → Bool
tail6 x = within 110 110 x || tail7 x

abbrev tail5 : ℕ → Bool
tail5 x = within 102 102 x || tail6 x

abbrev tail4 : ℕ → Bool
tail4 x = within 98 98 x || tail5 x

abbrev tail3 : ℕ → Bool
tail3 x = within 47 47 x || tail4 x

abbrev tail2 : ℕ → Bool
tail2 x = within 92 92 x || tail3 x

pub short_some : (x : ℕ) → first ahead short x ≡ true → (c : ℕ) × (short_of x ≡ Some c)
short_some x h =
    elim (or_cases (within 34 34 x) (tail2 x) h) as (λ _. Short x) [
      | inl k ↦ at_value x 34 34 k refl
      | inr h2 ↦
          elim (or_cases (within 92 92 x) (tail3 x) h2) as (λ _. Short x) [
            | inl k ↦ at_value x 92 92 k refl
            | inr h3 ↦
                elim (or_cases (within 47 47 x) (tail4 x) h3) as (λ _. Short x) [
                  | inl k ↦ at_value x 47 47 k refl
                  | inr h4 ↦
                      elim (or_cases (within 98 98 x) (tail5 x) h4) as (λ _. Short x) [
                        | inl k ↦ at_value x 98 8 k refl
                        | inr h5 ↦
                            elim (or_cases (within 102 102 x) (tail6 x) h5) as (λ _. Short x) [
                              | inl k ↦ at_value x 102 12 k refl
                              | inr h6 ↦
                                  elim (or_cases (within 110 110 x) (tail7 x) h6) as (λ _. Short x) [
                                    | inl k ↦ at_value x 110 10 k refl
                                    | inr h7 ↦
                                        elim (or_cases (within 114 114 x) (tail8 x) h7) as (λ _. Short x) [
                                          | inl k ↦ at_value x 114 13 k refl
                                          | inr h8 ↦
                                              at_value x 116 9 h8 refl
                                        ]
                                  ]
                            ]
                      ]
                ]
          ]
    ]

pub not_d_value : (a : ℕ) → first ahead not_d a ≡ true → digit_value a ≡ 13 → ⊥
not_d_value a h e = grind (arith, nat_tests)

pub not_d_hex : (a : ℕ) → first ahead not_d a ≡ true → first ahead hex a ≡ true
not_d_hex a h = grind (arith, nat_tests)

pub hex_value : (a : ℕ) → first ahead hex a ≡ true → digit_value a < 16
hex_value a h = grind (arith, nat_tests)

pub hex_unit : (a b c d : ℕ) → first ahead hex a ≡ true → first ahead hex b ≡ true → first ahead hex c ≡ true → first ahead hex d ≡ true → code_unit_of a b c d ≡ Some (digit_value a * 4096 + digit_value b * 256 + digit_value c * 16 + digit_value d)
hex_unit a b c d p q r s = rw (p, q, r, s) refl

-- a first digit other than 13 makes no surrogate
pub no_surrogate : (x y z w : ℕ) → x < 16 → y < 16 → z < 16 → w < 16 → (x ≡ 13 → ⊥) → (is_high (x * 4096 + y * 256 + z * 16 + w) || is_low (x * 4096 + y * 256 + z * 16 + w)) ≡ false
no_surrogate x y z w hx hy hz hw ne = grind (arith, nat_tests)

pub high_unit : (y z w : ℕ) → 8 ≤ y → y < 12 → z < 16 → w < 16 → is_high (13 * 4096 + y * 256 + z * 16 + w) ≡ true
high_unit y z w a b c d = grind (arith, nat_tests)

pub below_unit : (y z w : ℕ) → y < 8 → z < 16 → w < 16 → (is_high (13 * 4096 + y * 256 + z * 16 + w) || is_low (13 * 4096 + y * 256 + z * 16 + w)) ≡ false
below_unit y z w a b c = grind (arith, nat_tests)

pub low_digit_value : (y : ℕ) → within 48 55 y ≡ true → (first ahead hex y ≡ true) × (digit_value y < 8)
low_digit_value y h = (grind (arith, nat_tests), grind (arith, nat_tests))

pub d_value : (x : ℕ) → first ahead letter_d x ≡ true → (first ahead hex x ≡ true) × (digit_value x ≡ 13)
d_value x h = (grind (arith, nat_tests), grind (arith, nat_tests))

pub high_digit_value : (y : ℕ) → first ahead high_digit y ≡ true → (first ahead hex y ≡ true) × (8 ≤ digit_value y) × (digit_value y < 12)
high_digit_value y h = (grind (arith, nat_tests), grind (arith, nat_tests), grind (arith, nat_tests))

pub last_digit_value : (y : ℕ) → first ahead low_digit y ≡ true → (first ahead hex y ≡ true) × (12 ≤ digit_value y) × (digit_value y < 16)
last_digit_value y h = (grind (arith, nat_tests), grind (arith, nat_tests), grind (arith, nat_tests))

pub low_unit : (y z w : ℕ) → 12 ≤ y → y < 16 → z < 16 → w < 16 → is_low (13 * 4096 + y * 256 + z * 16 + w) ≡ true
low_unit y z w a b c d = grind (arith, nat_tests)
