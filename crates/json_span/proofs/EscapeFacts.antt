-- What an escape is, taken from the characters that it begins.
use Rattle.std.proofs.Common.{◌≡◌, ℕ, ◌+◌, ◌<◌, ◌≤◌, List, [], ◌∷◌, ◌++◌, length, drop, get_or, Bool, true, false, ◌||◌, ◌&&◌, Option, Some, None, cond, refl, sym, ap, ◌∙◌, subst, arith}
use Rattle.std.proofs.lemmas.Bool.Decides.{nat_tests}
use Rattle.std.specs.Char.{encode_utf8, IsScalar}
use Rattle.std.proofs.lemmas.Str.{encode_ascii}
use Rattle.std.proofs.Math.Logic.{∥∥₁_elim}
use Rattle.std.specs.Coded.{Coded-set, coded_ℕ, coded_bool, le_prop}
use Rattle.json_span.specs.inner.Escapes.{BeginsEscape, StandsFor}
use Rattle.grammar.specs.Predict.{first}
use Rattle.json_span.specs.Grammar.{hex, unescaped}
use Rattle.json_span.specs.Predictive.{ahead}
use Rattle.json_span.specs.Characters.{CharactersAt, closing_quote, unescaped_byte, short_escape, unicode_escape, surrogate_pair, short_of, code_unit, code_unit_of, is_high, is_low, joined_pair}

not_escape : (c : ℕ) → c ≡ 92 → first ahead unescaped c ≡ true → ⊥
not_escape c e h = let b : first ahead unescaped 92 ≡ true = subst (λ z. first ahead unescaped z ≡ true) e h in cc

not_both : (c : ℕ) → c ≡ 34 → c ≡ 92 → ⊥
not_both c e f = omega arith

not_u : (x c : ℕ) → short_of x ≡ Some c → x ≡ 117 → ⊥
not_u x c e f = let b : short_of 117 ≡ Some c = subst (λ z. short_of z ≡ Some c) f e in cc

pub record IsShort (t s u : List ℕ) : Type 0 where
  pub long : 2 ≤ length t
  pub character : ℕ
  pub stands : short_of (get_or t 1 0) ≡ Some character
  pub rest : List ℕ
  pub content : CharactersAt (drop 2 t) rest u
  pub same : s ≡ character ∷ rest

pub short_in : (t s u : List ℕ) → CharactersAt t s u → get_or t 0 0 ≡ 92 → (get_or t 1 0 ≡ 117 → ⊥) → IsShort t s u
short_in _ _ _ (closing_quote {c} e) h n = absurd (not_both c e h)
short_in _ _ _ (unescaped_byte {c} e x) h n = absurd (not_escape c h e)
short_in _ _ _ (short_escape {c = c} {s = s} b p x) h n = record { long = omega arith; character = c; stands = p; rest = s; content = x; same = refl }
short_in _ _ _ (unicode_escape b f p q x) h n = absurd (n f)
short_in _ _ _ (surrogate_pair b f p q g i r v x) h n = absurd (n f)

-- the digits after \u, from this place on
abbrev pub unit_in : List ℕ → ℕ → Option ℕ
unit_in t i = code_unit_of (get_or t i 0) (get_or t (i + 1) 0) (get_or t (i + 2) 0) (get_or t (i + 3) 0)

pub record IsOneUnit (t s u : List ℕ) (n : ℕ) : Type 0 where
  pub no_surrogate : (is_high n || is_low n) ≡ false
  pub rest : List ℕ
  pub content : CharactersAt (drop 6 t) rest u
  pub same : s ≡ encode_utf8 n ++ rest

pub record IsPair (t s u : List ℕ) (n : ℕ) : Type 0 where
  pub long : 12 ≤ length t
  pub low : ℕ
  pub stands : unit_in t 8 ≡ Some low
  pub is_low_one : is_low low ≡ true
  pub rest : List ℕ
  pub content : CharactersAt (drop 12 t) rest u
  pub same : s ≡ encode_utf8 (joined_pair n low) ++ rest

pub record IsUnit (t s u : List ℕ) : Type 0 where
  pub long : 6 ≤ length t
  pub number : ℕ
  pub stands : unit_in t 2 ≡ Some number
  pub alone : is_high number ≡ false → IsOneUnit t s u number
  pub paired : is_high number ≡ true → IsPair t s u number

both_ways : (b : Bool) → b ≡ true → b ≡ false → ⊥
both_ways b e f = cc

or_left : (a b : Bool) → (a || b) ≡ false → a ≡ false
or_left true b e = e
or_left false b e = refl

pub unit_in_escape : (t s u : List ℕ) → CharactersAt t s u → get_or t 0 0 ≡ 92 → get_or t 1 0 ≡ 117 → IsUnit t s u
unit_in_escape _ _ _ (closing_quote {c} e) h k = absurd (not_both c e h)
unit_in_escape _ _ _ (unescaped_byte {c} e x) h k = absurd (not_escape c h e)
unit_in_escape _ _ _ (short_escape {x = x} {c = c} b p y) h k = absurd (not_u x c p k)
unit_in_escape _ _ _ (unicode_escape {n = n} {s = s} b f p q x) h k = record {
  long = omega arith;
  number = n;
  stands = p;
  alone = λ _. record { no_surrogate = q; rest = s; content = x; same = refl };
  paired = λ e. absurd (both_ways (is_high n) e (or_left (is_high n) (is_low n) q));
}
unit_in_escape _ _ _ (surrogate_pair {h = n} {low = low} {s = s} b f p q g i r v x) h k = record {
  long = omega arith;
  number = n;
  stands = p;
  alone = λ e. absurd (both_ways (is_high n) q e);
  paired = λ _. record { long = omega arith; low = low; stands = r; is_low_one = v; rest = s; content = x; same = refl };
}

-- what is known of four digits that make a number
pub record AreDigits (a b c d n : ℕ) : Type 0 where
  pub first_hex : first ahead hex a ≡ true
  pub second_hex : first ahead hex b ≡ true
  pub third_hex : first ahead hex c ≡ true
  pub fourth_hex : first ahead hex d ≡ true
  pub number : code_unit a b c d ≡ n

four_tests : (p q r s : Bool) (m n : ℕ) → cond (p && q && r && s) (Some m) None ≡ Some n → (p ≡ true) × (q ≡ true) × (r ≡ true) × (s ≡ true) × (m ≡ n)
four_tests true true true true m n e = (refl, refl, refl, refl, cc)
four_tests true true true false m n e = cc
four_tests true true false s m n e = cc
four_tests true false r s m n e = cc
four_tests false q r s m n e = cc

pub digits_in : (a b c d n : ℕ) → code_unit_of a b c d ≡ Some n → AreDigits a b c d n
digits_in a b c d n e =
    let (p, q, r, s, m) = four_tests (first ahead hex a) (first ahead hex b) (first ahead hex c) (first ahead hex d) (code_unit a b c d) n e in
    record { first_hex = p; second_hex = q; third_hex = r; fourth_hex = s; number = m }

pub hex_ascii : (a : ℕ) → first ahead hex a ≡ true → a < 128
hex_ascii a h = grind (arith, nat_tests)

pub fourth_ascii : (a b c d n : ℕ) → code_unit_of a b c d ≡ Some n → d < 128
fourth_ascii a b c d n e = hex_ascii d (digits_in a b c d n e).fourth_hex

pub short_small : (x c : ℕ) → short_of x ≡ Some c → c < 128
short_small x c e = grind (arith, nat_tests)

pub short_stands : (t : List ℕ) (r : ℕ) → get_or t 0 0 ≡ 92 → (get_or t 1 0 ≡ 117 → ⊥) → ((c : ℕ) → short_of (get_or t 1 0) ≡ Some c → r ≡ c) → StandsFor t r 2
short_stands t r e n h s u x =
    let k = short_in t s u x e n in
    let same : r ≡ k.character = h k.character k.stands in
    let one : encode_utf8 r ≡ k.character ∷ [] = ap encode_utf8 same ∙ encode_ascii k.character (short_small (get_or t 1 0) k.character k.stands) in
    (k.rest, k.content, k.same ∙ sym (ap (λ z. z ++ k.rest) one))

pub scalar_alone : (n : ℕ) → n < 65536 → (is_high n || is_low n) ≡ false → IsScalar n
scalar_alone n h e = grind (arith, nat_tests)

scalar_pair : (h l : ℕ) → is_high h ≡ true → is_low l ≡ true → IsScalar (joined_pair h l)
scalar_pair h l p q = grind (arith, nat_tests)

pub alone_stands : (t : List ℕ) (n r : ℕ) → get_or t 0 0 ≡ 92 → get_or t 1 0 ≡ 117 → ((m : ℕ) → unit_in t 2 ≡ Some m → n ≡ m) → n < 65536 → is_high n ≡ false → (IsScalar n → r ≡ n) → StandsFor t r 6
alone_stands t n r e f h small unpaired g s u x =
    let k = unit_in_escape t s u x e f in
    let same : n ≡ k.number = h k.number k.stands in
    let one = k.alone (sym (ap is_high same) ∙ unpaired) in
    let is : r ≡ n = g (scalar_alone n small (ap (λ z. is_high z || is_low z) same ∙ one.no_surrogate)) in
    (one.rest, one.content, one.same ∙ ap (λ z. encode_utf8 z ++ one.rest) (sym (is ∙ same)))

pub pair_stands : (t : List ℕ) (n l r : ℕ) → get_or t 0 0 ≡ 92 → get_or t 1 0 ≡ 117 → ((m : ℕ) → unit_in t 2 ≡ Some m → n ≡ m) → is_high n ≡ true → ((m : ℕ) → unit_in t 8 ≡ Some m → l ≡ m) → r ≡ joined_pair n l → StandsFor t r 12
pair_stands t n l r e f h paired hl g s u x =
    let k = unit_in_escape t s u x e f in
    let same : n ≡ k.number = h k.number k.stands in
    let two = k.paired (sym (ap is_high same) ∙ paired) in
    let low : l ≡ two.low = hl two.low two.stands in
    (two.rest, two.content, two.same ∙ ap (λ z. encode_utf8 z ++ two.rest) (sym (g ∙ ap (λ z. joined_pair z l) same ∙ ap (joined_pair k.number) low)))

-- what is known of a text that begins an escape
pub short_letter : (x c : ℕ) → short_of x ≡ Some c → x < 128
short_letter x c e = grind (arith, nat_tests)

two_in : (t s u : List ℕ) → CharactersAt t s u → get_or t 0 0 ≡ 92 → 2 ≤ length t
two_in _ _ _ (closing_quote {c} e) h = absurd (not_both c e h)
two_in _ _ _ (unescaped_byte {c} e x) h = absurd (not_escape c h e)
two_in _ _ _ (short_escape b p x) h = omega arith
two_in _ _ _ (unicode_escape b f p q x) h = omega arith
two_in _ _ _ (surrogate_pair b f p q g i r v x) h = omega arith

pub two_long : (t : List ℕ) → BeginsEscape t → 2 ≤ length t
two_long t b = ∥∥₁_elim b le_prop (λ (s, u, x, e). two_in t s u x e)

pub letter_small : (t : List ℕ) → BeginsEscape t → (get_or t 1 0 ≡ 117 → ⊥) → get_or t 1 0 < 128
letter_small t b n = ∥∥₁_elim b le_prop (λ (s, u, x, e). let k = short_in t s u x e n in short_letter (get_or t 1 0) k.character k.stands)

pub begins_escape : (t : List ℕ) → BeginsEscape t → get_or t 0 0 ≡ 92
begins_escape t b = ∥∥₁_elim b (Coded-set coded_ℕ (get_or t 0 0) 92) (λ (s, u, x, e). e)

pub unit_long : (t : List ℕ) → BeginsEscape t → get_or t 1 0 ≡ 117 → 6 ≤ length t
unit_long t b f = ∥∥₁_elim b le_prop (λ (s, u, x, e). (unit_in_escape t s u x e f).long)

pub fourth_small : (t : List ℕ) → BeginsEscape t → get_or t 1 0 ≡ 117 → get_or t 5 0 < 128
fourth_small t b f = ∥∥₁_elim b le_prop (λ (s, u, x, e).
    let k = unit_in_escape t s u x e f in
    fourth_ascii (get_or t 2 0) (get_or t 3 0) (get_or t 4 0) (get_or t 5 0) k.number k.stands)

-- of two escapes, where the first one's number is that of a high surrogate
module _ (t : List ℕ) (n : ℕ) (b : BeginsEscape t) (f : get_or t 1 0 ≡ 117) (h : (m : ℕ) → unit_in t 2 ≡ Some m → n ≡ m) (paired : is_high n ≡ true) where
  pair_of : {s u : List ℕ} → (k : IsUnit t s u) → IsPair t s u k.number
  pair_of k = k.paired (sym (ap is_high (h k.number k.stands)) ∙ paired)

  pub pair_long : 12 ≤ length t
  pair_long = ∥∥₁_elim b le_prop (λ (s, u, x, e). (pair_of (unit_in_escape t s u x e f)).long)

  pub low_small : get_or t 11 0 < 128
  low_small = ∥∥₁_elim b le_prop (λ (s, u, x, e).
      let p = pair_of (unit_in_escape t s u x e f) in
      fourth_ascii (get_or t 8 0) (get_or t 9 0) (get_or t 10 0) (get_or t 11 0) p.low p.stands)

  pub low_is_low : (low : ℕ) → ((m : ℕ) → unit_in t 8 ≡ Some m → low ≡ m) → is_low low ≡ true
  low_is_low low g = ∥∥₁_elim b (Coded-set coded_bool (is_low low) true) (λ (s, u, x, e).
      let p = pair_of (unit_in_escape t s u x e f) in
      ap is_low (g p.low p.stands) ∙ p.is_low_one)

pub scalar_joined : (h l : ℕ) → is_high h ≡ true → is_low l ≡ true → IsScalar (joined_pair h l)
scalar_joined h l p q = scalar_pair h l p q
