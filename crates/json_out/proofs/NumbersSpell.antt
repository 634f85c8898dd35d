-- The number of a JSON number's text is the one that the text spells.
use Rattle.std.proofs.Common.{◌≡◌, ℕ, ◌&&◌, ◌⊎◌, inl, inr, Bool, true, false, List, [], ◌∷◌, ◌++◌, refl, sym, ◌∙◌, ap, subst, append-nil, arith, Option, Some}
use Rattle.std.specs.Prelude.{option_map}
use Rattle.std.specs.Char.{is_ascii_digit}
use Rattle.std.specs.Str.{all_ascii_digits}
use Rattle.std.proofs.lemmas.Bool.Decides.{nat_tests}
use Rattle.grammar.specs.Grammar.{Reads, Derives, no_byte, one_byte, both, left, right, no_more, more, by_name, many, named, within}
use Rattle.json_span.specs.Grammar.{number, digit, digits, int, frac, exp, either_byte, optional, one}
use Rattle.json_span.specs.Predictive.{rules}
use Rattle.dec_fix.specs.Decimal.{Decimal, IsSameNumber, decimal_of}
use Rattle.dec_fix.specs.Reading.{size_of, places_of, text_decimal}
use Rattle.dec_fix.specs.Spelling.{Sign, unsigned, plus, minus, Exponent, none, power, NumberParts, minus_text, fraction_text, sign_text, exponent_text, text_of, IsDigits, IsInt, IsExponent, IsNumber, number_of_parts, Spells}
use Rattle.dec_fix.proofs.Grammar.{split, split_text, number_by_split}
use Rattle.dec_fix.proofs.SameNumber.{decimal_of-same}
use Rattle.json_out.specs.Reading.{or_zero, number_of_text}

-- bytes
is_byte : (c d : ℕ) → within d d c ≡ true → c ≡ d
is_byte c d h = grind (arith, nat_tests)

is_digit : (c : ℕ) → within 48 57 c ≡ true → is_ascii_digit c ≡ true
is_digit c h = grind (arith, nat_tests)

above_zero : (c : ℕ) → within 49 57 c ≡ true → (is_ascii_digit c ≡ true) × (c ≡ 48 → ⊥)
above_zero c h = (grind (arith, nat_tests), λ e. grind (arith, nat_tests))

together : (a b : Bool) → a ≡ true → b ≡ true → a && b ≡ true
together true b h i = i
together false b h i = cc

-- digits before what follows
record HasDigits (t u : List ℕ) : Type 0 where
  ds : List ℕ
  digits : all_ascii_digits ds ≡ true
  whole : t ≡ ds ++ u

digits_of : {t u : List ℕ} → Reads rules (many digit) t u → HasDigits t u
digits_of no_more = record { ds = []; digits = refl; whole = refl }
digits_of (more (one_byte {c = c} k) x) =
    let again = digits_of x in
    record { ds = c ∷ again.ds; digits = together (is_ascii_digit c) (all_ascii_digits again.ds) (is_digit c k) again.digits; whole = ap (λ z. c ∷ z) again.whole }

-- one digit or more
record HasSome (t u : List ℕ) : Type 0 where
  first : ℕ
  others : List ℕ
  are : IsDigits (first ∷ others)
  whole : t ≡ first ∷ (others ++ u)

some_of : {t u : List ℕ} → Reads rules digits t u → HasSome t u
some_of (both (one_byte {c = c} k) x) =
    let again = digits_of x in
    record {
      first = c;
      others = again.ds;
      are = record { digits = together (is_ascii_digit c) (all_ascii_digits again.ds) (is_digit c k) again.digits; some = omega arith };
      whole = ap (λ z. c ∷ z) again.whole;
    }

-- a whole part
record HasInt (t u : List ℕ) : Type 0 where
  ds : List ℕ
  is_int : IsInt ds
  whole : t ≡ ds ++ u

int_of : {t u : List ℕ} → Reads rules int t u → HasInt t u
int_of (left (one_byte {c = c} {t = t} k)) =
    let same : c ≡ 48 = is_byte c 48 k in
    record {
      ds = 48 ∷ [];
      is_int = record { digits = record { digits = refl; some = omega arith }; zero_alone = λ e. refl };
      whole = ap (λ z. z ∷ t) same;
    }
int_of (right (both (one_byte {c = c} k) x)) =
    let again = digits_of x in
    let above = above_zero c k in
    record {
      ds = c ∷ again.ds;
      is_int = record {
        digits = record { digits = together (is_ascii_digit c) (all_ascii_digits again.ds) above.0 again.digits; some = omega arith };
        zero_alone = λ e. absurd (above.1 e);
      };
      whole = ap (λ z. c ∷ z) again.whole;
    }

-- a fraction or none
record HasFraction (t u : List ℕ) : Type 0 where
  ds : List ℕ
  digits : all_ascii_digits ds ≡ true
  whole : t ≡ fraction_text ds ++ u

fraction_of : {t u : List ℕ} → Reads rules (optional frac) t u → HasFraction t u
fraction_of (left (both (one_byte {c = c} {t = t} k) x)) =
    let some = some_of x in
    let same : c ≡ 46 = is_byte c 46 k in
    record { ds = some.first ∷ some.others; digits = some.are.digits; whole = ap (λ z. z ∷ t) same ∙ ap (λ z. 46 ∷ z) some.whole }
fraction_of (right no_byte) = record { ds = []; digits = refl; whole = refl }

-- an exponent or none
record HasSign (t u : List ℕ) : Type 0 where
  sign : Sign
  whole : t ≡ sign_text sign ++ u

sign_of : {t u : List ℕ} → Reads rules (optional (either_byte 43 45)) t u → HasSign t u
sign_of (left (left (one_byte {c = c} {t = t} k))) = record { sign = plus; whole = ap (λ z. z ∷ t) (is_byte c 43 k) }
sign_of (left (right (one_byte {c = c} {t = t} k))) = record { sign = minus; whole = ap (λ z. z ∷ t) (is_byte c 45 k) }
sign_of (right no_byte) = record { sign = unsigned; whole = refl }

record HasLetter (t u : List ℕ) : Type 0 where
  letter : ℕ
  is : (letter ≡ 101) ⊎ (letter ≡ 69)
  whole : t ≡ letter ∷ u

letter_of : {t u : List ℕ} → Reads rules (either_byte 69 101) t u → HasLetter t u
letter_of (left (one_byte {c = c} k)) = record { letter = c; is = inr (is_byte c 69 k); whole = refl }
letter_of (right (one_byte {c = c} k)) = record { letter = c; is = inl (is_byte c 101 k); whole = refl }

signed_text : (sign : Sign) (first : ℕ) (others u : List ℕ) → sign_text sign ++ (first ∷ (others ++ u)) ≡ (sign_text sign ++ (first ∷ others)) ++ u
signed_text unsigned first others u = refl
signed_text plus first others u = refl
signed_text minus first others u = refl

record HasExponent (t u : List ℕ) : Type 0 where
  exponent : Exponent
  is : IsExponent exponent
  whole : t ≡ exponent_text exponent ++ u

exponent_of : {t u : List ℕ} → Reads rules (optional exp) t u → HasExponent t u
exponent_of {u = u} (left (both x (both y z))) =
    let letter = letter_of x in
    let sign = sign_of y in
    let some = some_of z in
    record {
      exponent = power letter.letter sign.sign (some.first ∷ some.others);
      is = (letter.is, some.are);
      whole = letter.whole ∙ ap (λ w. letter.letter ∷ w) (sign.whole ∙ ap (λ w. sign_text sign.sign ++ w) some.whole ∙ signed_text sign.sign some.first some.others u);
    }
exponent_of (right no_byte) = record { exponent = none; is = tt; whole = refl }

record HasMinus (t u : List ℕ) : Type 0 where
  negative : Bool
  whole : t ≡ minus_text negative ++ u

minus_of : {t u : List ℕ} → Reads rules (optional (one 45)) t u → HasMinus t u
minus_of (left (one_byte {c = c} {t = t} k)) = record { negative = true; whole = ap (λ z. z ∷ t) (is_byte c 45 k) }
minus_of (right no_byte) = record { negative = false; whole = refl }

-- a number
record HasParts (t : List ℕ) : Type 0 where
  parts : NumberParts
  is : IsNumber parts
  whole : t ≡ text_of parts

parts_of : {t : List ℕ} → Reads rules (named number) t [] → HasParts t
parts_of (by_name (both x (both y (both z w)))) =
    let sign = minus_of x in
    let int = int_of y in
    let fraction = fraction_of z in
    let exponent = exponent_of w in
    let last = exponent.whole ∙ append-nil (exponent_text exponent.exponent) in
    record {
      parts = record { negative = sign.negative; whole = int.ds; fraction = fraction.ds; exponent = exponent.exponent };
      is = record { whole = int.is_int; fraction = fraction.digits; exponent = exponent.is };
      whole = sign.whole ∙ ap (λ t. minus_text sign.negative ++ t) (int.whole ∙ ap (λ t. int.ds ++ t) (fraction.whole ∙ ap (λ t. fraction_text fraction.ds ++ t) last));
    }

pub numbers_read : (text : List ℕ) → Derives rules (named number) text → Spells text (number_of_text text)
numbers_read text read =
    let has = parts_of read in
    let s = split has.parts in
    let d = decimal_of s.negative (size_of s) (places_of s) in
    let found : text_decimal text ≡ Some d = ap text_decimal has.whole ∙ ap (λ o. option_map (λ p. decimal_of p.negative (size_of p) (places_of p)) o) (split_text has.parts has.is) in
    let P : Decimal → Type 0 = λ n. IsSameNumber d n in
    let Q : Option Decimal → Type 0 = λ o. IsSameNumber (or_zero o) (number_of_parts has.parts) in
    let same : IsSameNumber d (number_of_parts has.parts) = subst P (sym (number_by_split has.parts)) (decimal_of-same s.negative (size_of s) (places_of s)) in
    record { parts = has.parts; is_number = has.is; spelled = has.whole; same = subst Q (sym found) same }
