-- Escaped names are kept apart by bytes that no escaped name holds.
use Rattle.std.proofs.Common.{◌≡◌, ◌/◌, ◌%◌, ◌&&◌, ℕ, Bool, true, false, List, [], ◌∷◌, ◌++◌, append_assoc, refl, sym, ap, ap₂, ◌∙◌, inl, inr, arith}
use Rattle.std.proofs.lemmas.Bool.Decides.{nat_tests}
use Rattle.std.specs.List.{list_all}
use Rattle.std.specs.Prelude.{◌⊎◌, if◌then◌else◌}
use Rattle.permutations.specs.Name.{is_unescaped, upper_digit, escaped_byte, escaped_name}

-- what is kept as it is, is the same escaped
pub escaped-unescaped : (name : List ℕ) → list_all is_unescaped name ≡ true → escaped_name name ≡ name
escaped-unescaped [] h = refl
escaped-unescaped (c ∷ cs) h = at (is_unescaped c) refl (escaped-unescaped cs) h
  where
    at : (t : Bool) → is_unescaped c ≡ t → (list_all is_unescaped cs ≡ true → escaped_name cs ≡ cs) → (t && list_all is_unescaped cs) ≡ true → escaped_byte c ++ escaped_name cs ≡ c ∷ cs
    at true u rest k = rw u (ap (λ bytes. c ∷ bytes) (rest k))
    at false u rest k = cc

-- nothing follows, or '+' or '='
abbrev pub IsEnd : List ℕ → Type 0
IsEnd [] = Unit {0}
IsEnd (c ∷ cs) = (c ≡ 43) ⊎ (c ≡ 61)

is_other : (c d : ℕ) → is_unescaped c ≡ true → is_unescaped d ≡ false → c ≡ d → ⊥
is_other c d u v e = let h : true ≡ false = sym u ∙ (ap is_unescaped e ∙ v) in cc

digit_same : (a b : ℕ) → upper_digit a ≡ upper_digit b → a ≡ b
digit_same a b e = grind (arith, nat_tests)

byte_same : (x y : ℕ) → x / 16 ≡ y / 16 → x % 16 ≡ y % 16 → x ≡ y
byte_same x y p q = omega arith

abbrev kept_or_not : Bool → ℕ → List ℕ
kept_or_not kept c = if kept then c ∷ [] else 37 ∷ upper_digit (c / 16) ∷ upper_digit (c % 16) ∷ []

no_end : (c : ℕ) (kept : Bool) → is_unescaped c ≡ kept → (xs r : List ℕ) → IsEnd r → kept_or_not kept c ++ xs ≡ r → ⊥
no_end c true u xs [] e is = cc
no_end c true u xs (y ∷ ys) e is =
    let h : c ≡ y = cc in
    elim e [ inl p ↦ is_other c 43 u refl (h ∙ p) | inr p ↦ is_other c 61 u refl (h ∙ p) ]
no_end c false u xs [] e is = cc
no_end c false u xs (y ∷ ys) e is =
    let h : 37 ≡ y = cc in
    elim e [ inl p ↦ absurd (omega arith) | inr p ↦ absurd (omega arith) ]

-- two texts of the same prefix, and what stands after it
pub record Split {X : Type 0} (x y : X) (xs ys : List ℕ) : Type 0 where
  pub front : x ≡ y
  pub rest : xs ≡ ys

byte_split : (x y : ℕ) (a b : Bool) → is_unescaped x ≡ a → is_unescaped y ≡ b → (xs ys : List ℕ) → kept_or_not a x ++ xs ≡ kept_or_not b y ++ ys → Split x y xs ys
byte_split x y true true u v xs ys is = record { front = cc; rest = cc }
byte_split x y true false u v xs ys is = let h : x ≡ 37 = cc in absurd (is_other x 37 u refl h)
byte_split x y false true u v xs ys is = let h : y ≡ 37 = cc in absurd (is_other y 37 v refl h)
byte_split x y false false u v xs ys is =
    let high : upper_digit (x / 16) ≡ upper_digit (y / 16) = cc in
    let low : upper_digit (x % 16) ≡ upper_digit (y % 16) = cc in
    record { front = byte_same x y (digit_same (x / 16) (y / 16) high) (digit_same (x % 16) (y % 16) low); rest = cc }

-- an escaped name is read to its end
pub name_split : (a b r s : List ℕ) → IsEnd r → IsEnd s → escaped_name a ++ r ≡ escaped_name b ++ s → Split a b r s
name_split [] [] r s er es is = record { front = refl; rest = is }
name_split [] (y ∷ ys) r s er es is = absurd (no_end y (is_unescaped y) refl (escaped_name ys ++ s) r er (sym (is ∙ append_assoc (escaped_byte y) (escaped_name ys) s)))
name_split (x ∷ xs) [] r s er es is = absurd (no_end x (is_unescaped x) refl (escaped_name xs ++ r) s es (sym (append_assoc (escaped_byte x) (escaped_name xs) r) ∙ is))
name_split (x ∷ xs) (y ∷ ys) r s er es is =
    let first = byte_split x y (is_unescaped x) (is_unescaped y) refl refl (escaped_name xs ++ r) (escaped_name ys ++ s)
    (sym (append_assoc (escaped_byte x) (escaped_name xs) r) ∙ (is ∙ append_assoc (escaped_byte y) (escaped_name ys) s)) in
    let more = name_split xs ys r s er es first.rest in
    record { front = ap₂ (λ c cs. c ∷ cs) first.front more.front; rest = more.rest }
