-- How each byte is spelled in a string, and what stands behind a backslash.
use Rattle.std.proofs.Common.{◌≡◌, ◌≢◌, ℕ, ◌<◌, ◌/◌, ◌%◌, ◌==◌, ◌||◌, nat_lt, if◌then◌else◌, Bool, true, false, List, [], ◌∷◌, ◌++◌, ◌⊎◌, inl, inr, refl, sym, ap, ◌∙◌, arith}
use Rattle.std.proofs.lemmas.Bool.{eq-eqb}
use Rattle.std.proofs.lemmas.Bool.Decides.{nat_tests}
use Rattle.json_span.specs.Spelling.{hex_digit, byte_text}

abbrev chosen : ℕ → Bool → Bool → Bool → List ℕ
chosen c a b l = if a || b then 92 ∷ c ∷ [] else (if l then 92 ∷ 117 ∷ 48 ∷ 48 ∷ hex_digit (c / 16) ∷ hex_digit (c % 16) ∷ [] else c ∷ [])

-- how a byte is spelled
pub data Byte (c : ℕ) : Type 0 where
  escaped : (c ≡ 34) ⊎ (c ≡ 92) → byte_text c ≡ 92 ∷ c ∷ [] → Byte c
  control : c < 32 → byte_text c ≡ 92 ∷ 117 ∷ 48 ∷ 48 ∷ hex_digit (c / 16) ∷ hex_digit (c % 16) ∷ [] → Byte c
  plain : c ≢ 34 → c ≢ 92 → byte_text c ≡ c ∷ [] → Byte c

chosen_by : (c : ℕ) (a b l : Bool) → (c == 34) ≡ a → (c == 92) ≡ b → nat_lt c 32 ≡ l → byte_text c ≡ chosen c a b l
chosen_by c a b l p q o =
    ap (λ (t : Bool). chosen c t (c == 92) (nat_lt c 32)) p ∙ (ap (λ (t : Bool). chosen c a t (nat_lt c 32)) q ∙ ap (λ (t : Bool). chosen c a b t) o)

is_not : (c d : ℕ) → (c == d) ≡ false → c ≢ d
is_not c d p e = (let t : (c == d) ≡ true = eq-eqb c d e in let k : true ≡ false = sym t ∙ p in cc)

byte_by : (c : ℕ) (a b l : Bool) → (c == 34) ≡ a → (c == 92) ≡ b → nat_lt c 32 ≡ l → Byte c
byte_by c true b l p q o = escaped (inl (grind (arith, nat_tests))) (chosen_by c true b l p q o)
byte_by c false true l p q o = escaped (inr (grind (arith, nat_tests))) (chosen_by c false true l p q o)
byte_by c false false true p q o = control (grind (arith, nat_tests)) (chosen_by c false false true p q o)
byte_by c false false false p q o = plain (is_not c 34 p) (is_not c 92 q) (chosen_by c false false false p q o)

pub byte_of : (c : ℕ) → Byte c
byte_of c = byte_by c (c == 34) (c == 92) (nat_lt c 32) refl refl refl

-- the spelling of this byte begins with a backslash
pub data Escaped (c : ℕ) (text rest : List ℕ) : Type 0 where
  by_itself : (c ≡ 34) ⊎ (c ≡ 92) → text ≡ c ∷ rest → Escaped c text rest
  by_code : c < 32 → text ≡ 117 ∷ 48 ∷ 48 ∷ hex_digit (c / 16) ∷ hex_digit (c % 16) ∷ rest → Escaped c text rest

escaped_by : (c : ℕ) (text rest : List ℕ) → Byte c → 92 ∷ text ≡ byte_text c ++ rest → Escaped c text rest
escaped_by c text rest (escaped is f) e =
    let k : 92 ∷ text ≡ 92 ∷ c ∷ rest = e ∙ ap (λ (z : List ℕ). z ++ rest) f in
    by_itself is (cc)
escaped_by c text rest (control low f) e =
    let k : 92 ∷ text ≡ 92 ∷ 117 ∷ 48 ∷ 48 ∷ hex_digit (c / 16) ∷ hex_digit (c % 16) ∷ rest = e ∙ ap (λ (z : List ℕ). z ++ rest) f in
    by_code low (cc)
escaped_by c text rest (plain p q f) e =
    let k : 92 ∷ text ≡ c ∷ rest = e ∙ ap (λ (z : List ℕ). z ++ rest) f in
    let n : c ≡ 92 = cc in absurd (q n)

pub escape_is : (c : ℕ) (text rest : List ℕ) → 92 ∷ text ≡ byte_text c ++ rest → Escaped c text rest
escape_is c text rest e = escaped_by c text rest (byte_of c) e

pub escaped_small : (c : ℕ) (text rest : List ℕ) → Escaped c text rest → c < 128
escaped_small c text rest (by_itself (inl p) e) = omega arith
escaped_small c text rest (by_itself (inr p) e) = omega arith
escaped_small c text rest (by_code low e) = omega arith
