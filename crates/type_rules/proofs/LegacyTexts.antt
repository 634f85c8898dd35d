-- What legacy texts spell is read of them, and what is read they spell.
use Rattle.std.proofs.Common.{◌≡◌, ◌≢◌, ℕ, zero, suc, ◌+◌, ◌-◌, ◌<◌, ◌==◌, ◌&&◌, ◌||◌, ◌⊎◌, inl, inr, Bool, true, false, List, [], ◌∷◌, ◌++◌, length, take, drop, get_or, codes, Option, Some, None, refl, ap, sym, subst, ◌∙◌, arith}
use Rattle.std.specs.Prelude.{if◌then◌else◌}
use Rattle.std.specs.Char.{is_ascii_digit, is_ascii_hexdigit, digit_value}
use Rattle.std.specs.List.{list_all}
use Rattle.std.specs.Str.{all_ascii_digits}
use Rattle.std.specs.Str.Pattern.{FindsTextSuffix, StripsSuffix}
use Rattle.std.proofs.lemmas.Bool.Decides.{nat_tests}
use Rattle.std.proofs.lemmas.List.{take-append-drop, append_cancel_left, length-append}
use Rattle.std.proofs.Math.Seq.{drop-append_seam, take-append_seam}
use Rattle.dec_fix.specs.Decimal.{Decimal}
use Rattle.dec_fix.specs.Reading.{is_number_text}
use Rattle.dec_fix.specs.Spelling.{Sign, unsigned, plus, minus, Exponent, none, power, minus_text, fraction_text, sign_text, exponent_text, IsExponent, IsNumberText, Spells}
use Rattle.dec_fix.proofs.NumberTexts.{split_is_text, text_is_split}
use Rattle.type_rules.specs.declared.color.Color.{Color}
use Rattle.type_rules.specs.declared.size.SizeUnit.{SizeUnit}
use Rattle.type_rules.specs.declared.size.SizeUnit.TheVariants.{Px, Rem}
use Rattle.type_rules.specs.declared.time.TimeUnit.{TimeUnit}
use Rattle.type_rules.specs.declared.time.TimeUnit.TheVariants.{Ms, S}
use Rattle.type_rules.specs.Words.{size_units, size_unit_name, time_units, time_unit_name}
use Rattle.type_rules.specs.Legacy.{HasUnit, byte_at, color_of, HasDigits, SpellsColor, ends_in, before_end, number_before, or_later, split_measure, legacy_color}
use Rattle.type_rules.proofs.WordFacts.{same_text, text_same, and_left, and_right, named_rows}

-- ---- a text and its end

pub end_is : (unit text : List ℕ) → ends_in unit text ≡ true → text ≡ before_end unit text ++ unit
end_is unit text e =
    let k = length text - length unit in
    sym (take-append-drop k text) ∙ ap (λ t. take k text ++ t) (same_text (drop k text) unit e)

seam : (unit front : List ℕ) → length (front ++ unit) - length unit ≡ length front
seam unit front = omega (arith, length-append front unit)

pub end_there : (unit front : List ℕ) → ends_in unit (front ++ unit) ≡ true
end_there unit front = text_same _ unit (ap (λ k. drop k (front ++ unit)) (seam unit front) ∙ drop-append_seam front unit)

pub end_cut : (unit front : List ℕ) → before_end unit (front ++ unit) ≡ front
end_cut unit front = ap (λ k. take k (front ++ unit)) (seam unit front) ∙ take-append_seam front unit

-- what the code strips
no_end : (unit text : List ℕ) (b : Bool) → ends_in unit text ≡ b → ((front : List ℕ) → text ≢ front ++ unit) → b ≡ false
no_end unit text true e h = absurd (h (before_end unit text) (end_is unit text e))
no_end unit text false e h = refl

stripped_end : (unit text front : List ℕ) (n : ℕ) → n ≡ length unit → text ≡ take (length text - n) text ++ unit → front ≡ take (length text - n) text → (ends_in unit text ≡ true) × (front ≡ before_end unit text)
stripped_end unit text front n len spelled cut =
    let k = length text - length unit in
    let same : text ≡ take k text ++ unit = subst (λ m. text ≡ take (length text - m) text ++ unit) len spelled in
    let tail : drop k text ≡ unit = append_cancel_left (take k text) (drop k text) unit (take-append-drop k text ∙ same) in
    (text_same (drop k text) unit tail, subst (λ m. front ≡ take (length text - m) text) len cut)

-- ---- the number before a unit

abbrev before_if : Bool → List ℕ → Option (List ℕ)
before_if b front = if b then Some front else None

-- what the code finds of it
pub none_stripped : (unit text : List ℕ) → ((front : List ℕ) → text ≢ front ++ unit) → number_before unit text ≡ None
none_stripped unit text h =
    ap (λ b. before_if (b && is_number_text (before_end unit text)) (before_end unit text)) (no_end unit text (ends_in unit text) refl h)

pub number_stripped : (unit text number : List ℕ) → StripsSuffix (FindsTextSuffix unit) text number → is_number_text number ≡ true → number_before unit text ≡ Some number
number_stripped unit text number (n, (len, spelled, boundary), cut, room) h =
    let at_end = stripped_end unit text number n len spelled cut in
    let is : is_number_text (before_end unit text) ≡ true = ap is_number_text (sym at_end.1) ∙ h in
    ap (λ b. before_if (b && is_number_text (before_end unit text)) (before_end unit text)) at_end.0
    ∙ (ap (λ b. before_if b (before_end unit text)) is ∙ ap Some (sym at_end.1))

pub before_spelled : (unit text front : List ℕ) → text ≡ front ++ unit → IsNumberText front → number_before unit text ≡ Some front
before_spelled unit text front e h =
    let P : List ℕ → Type 0 = λ t. number_before unit t ≡ Some front in
    let number : is_number_text (before_end unit (front ++ unit)) ≡ true = ap is_number_text (end_cut unit front) ∙ text_is_split front h in
    subst P (sym e)
    (ap (λ b. before_if (b && is_number_text (before_end unit (front ++ unit))) (before_end unit (front ++ unit))) (end_there unit front)
    ∙ (ap (λ b. before_if b (before_end unit (front ++ unit))) number ∙ ap Some (end_cut unit front)))

-- the number before a unit, found
pub record IsBefore (unit text number : List ℕ) : Type 0 where
  pub spelled : text ≡ number ++ unit
  pub is_number : IsNumberText number

before_by : (unit text number : List ℕ) (b : Bool) → (ends_in unit text && is_number_text (before_end unit text)) ≡ b → before_if b (before_end unit text) ≡ Some number → IsBefore unit text number
before_by unit text number true t e =
    let same : before_end unit text ≡ number = cc in
    let P : List ℕ → Type 0 = λ n. IsBefore unit text n in
    subst P same (record {
      spelled = end_is unit text (and_left (ends_in unit text) _ t);
      is_number = split_is_text (before_end unit text) (and_right (ends_in unit text) _ t);
    })
before_by unit text number false t e = absurd (let h : ⊥ = cc in h)

pub before_found : (unit text number : List ℕ) → number_before unit text ≡ Some number → IsBefore unit text number
before_found unit text number e = before_by unit text number (ends_in unit text && is_number_text (before_end unit text)) refl e

pub not_before : (unit text : List ℕ) → number_before unit text ≡ None → ¬ HasUnit unit text
not_before unit text e h = let f = before_spelled unit text h.front h.spelled h.is_number in cc

-- ---- tables of units

module _ {U : Type 0} where
  later_none : (u : U) (o : Option (List ℕ)) (later : Option (List ℕ × U)) → or_later u o later ≡ None → (o ≡ None) × (later ≡ None)
  later_none u None later e = (refl, e)
  later_none u (Some n) later e = absurd (let h : ⊥ = cc in h)

  later_found : (P : List ℕ × U → Type 0) (u : U) (o : Option (List ℕ)) (later : Option (List ℕ × U)) (m : List ℕ × U) → or_later u o later ≡ Some m
      → ((n : List ℕ) → o ≡ Some n → P (n, u)) → (later ≡ Some m → P m) → P m
  later_found P u None later m e here there = there e
  later_found P u (Some n) later m e here there = let same : (n, u) ≡ m = cc in subst P same (here n refl)

  pub split_found : (name : U → List ℕ) (us : List U) (text : List ℕ) (m : List ℕ × U) → split_measure (named_rows name us) text ≡ Some m → IsBefore (name m.1) text m.0
  split_found name [] text m e = absurd (let h : ⊥ = cc in h)
  split_found name (u ∷ us) text m e =
      later_found (λ p. IsBefore (name p.1) text p.0) u (number_before (name u) text) (split_measure (named_rows name us) text) m e
      (λ n h. before_found (name u) text n h) (split_found name us text m)

-- ---- the bytes of numbers

abbrev is_number_byte : ℕ → Bool
is_number_byte b = is_ascii_digit b || ((b == 45) || ((b == 43) || ((b == 46) || ((b == 101) || (b == 69)))))

all_joined : (p : ℕ → Bool) (xs ys : List ℕ) → list_all p xs ≡ true → list_all p ys ≡ true → list_all p (xs ++ ys) ≡ true
all_joined p [] ys h k = k
all_joined p (x ∷ xs) ys h k = ap (λ b. b && list_all p (xs ++ ys)) (and_left (p x) (list_all p xs) h) ∙ all_joined p xs ys (and_right (p x) (list_all p xs) h) k

all_behind : (p : ℕ → Bool) (xs ys : List ℕ) → list_all p (xs ++ ys) ≡ true → list_all p ys ≡ true
all_behind p [] ys h = h
all_behind p (x ∷ xs) ys h = all_behind p xs ys (and_right (p x) (list_all p (xs ++ ys)) h)

digit_byte : (b : ℕ) → is_ascii_digit b ≡ true → is_number_byte b ≡ true
digit_byte b e = ap (λ t. t || ((b == 45) || ((b == 43) || ((b == 46) || ((b == 101) || (b == 69)))))) e

digit_bytes : (ds : List ℕ) → all_ascii_digits ds ≡ true → list_all is_number_byte ds ≡ true
digit_bytes [] h = refl
digit_bytes (d ∷ ds) h =
    ap (λ b. b && list_all is_number_byte ds) (digit_byte d (and_left (is_ascii_digit d) (all_ascii_digits ds) h))
    ∙ digit_bytes ds (and_right (is_ascii_digit d) (all_ascii_digits ds) h)

minus_bytes : (negative : Bool) → list_all is_number_byte (minus_text negative) ≡ true
minus_bytes true = refl
minus_bytes false = refl

sign_bytes : (sign : Sign) → list_all is_number_byte (sign_text sign) ≡ true
sign_bytes unsigned = refl
sign_bytes plus = refl
sign_bytes minus = refl

fraction_bytes : (f : List ℕ) → all_ascii_digits f ≡ true → list_all is_number_byte (fraction_text f) ≡ true
fraction_bytes [] h = refl
fraction_bytes (d ∷ ds) h = digit_bytes (d ∷ ds) h

exponent_bytes : (e : Exponent) → IsExponent e → list_all is_number_byte (exponent_text e) ≡ true
exponent_bytes none h = refl
exponent_bytes (power letter sign ds) h =
    let rest = all_joined is_number_byte (sign_text sign) ds (sign_bytes sign) (digit_bytes ds h.1.digits) in
    elim h.0 [ inl e ↦ rw e rest | inr e ↦ rw e rest ]

number_bytes : (t : List ℕ) → IsNumberText t → list_all is_number_byte t ≡ true
number_bytes t h =
    let p = h.parts in
    ap (list_all is_number_byte) h.spelled
    ∙ all_joined is_number_byte (minus_text p.negative) _ (minus_bytes p.negative)
    (all_joined is_number_byte p.whole _ (digit_bytes p.whole h.is_number.whole.digits.digits)
    (all_joined is_number_byte (fraction_text p.fraction) (exponent_text p.exponent) (fraction_bytes p.fraction h.is_number.fraction) (exponent_bytes p.exponent h.is_number.exponent)))

-- no letter but e ends a number
no_letter : (front : List ℕ) (c : ℕ) → is_number_byte c ≡ false → ¬ IsNumberText (front ++ c ∷ [])
no_letter front c other h =
    let all = all_behind is_number_byte front (c ∷ []) (number_bytes (front ++ c ∷ []) h) in
    let one = and_left (is_number_byte c) true all in
    cc

-- ---- ends that differ

last_one : (xs ys : List ℕ) (x y : ℕ) → xs ++ x ∷ [] ≡ ys ++ y ∷ [] → (xs ≡ ys) × (x ≡ y)
last_one [] [] x y e = let h : x ≡ y = cc in (refl, h)
last_one [] (b ∷ ys) x y e = absurd (omega (arith, ap length e, length-append ys (y ∷ [])))
last_one (a ∷ xs) [] x y e = absurd (omega (arith, ap length e, length-append xs (x ∷ [])))
last_one (a ∷ xs) (b ∷ ys) x y e =
    let head : a ≡ b = cc in
    let tail : xs ++ x ∷ [] ≡ ys ++ y ∷ [] = cc in
    let rest = last_one xs ys x y tail in
    (ap (λ z. z ∷ xs) head ∙ ap (λ zs. b ∷ zs) rest.0, rest.1)

-- what is put before the last byte
two_ends : (n : List ℕ) (a b : ℕ) → n ++ a ∷ b ∷ [] ≡ (n ++ a ∷ []) ++ b ∷ []
two_ends [] a b = refl
two_ends (x ∷ n) a b = ap (λ z. x ∷ z) (two_ends n a b)

three_ends : (n : List ℕ) (a b c : ℕ) → n ++ a ∷ b ∷ c ∷ [] ≡ (n ++ a ∷ b ∷ []) ++ c ∷ []
three_ends [] a b c = refl
three_ends (x ∷ n) a b c = ap (λ z. x ∷ z) (three_ends n a b c)

-- a text that ends in rem ends in no px
rem_no_px : (front number : List ℕ) → front ++ codes "rem" ≡ number ++ codes "px" → ⊥
rem_no_px front number e =
    let same = last_one (front ++ 114 ∷ 101 ∷ []) (number ++ 112 ∷ []) 109 120 (sym (three_ends front 114 101 109) ∙ (e ∙ two_ends number 112 120)) in
    omega (arith, same.1)

-- a number followed by s is none that is followed by ms
s_no_ms : (front number : List ℕ) → IsNumberText front → front ++ codes "s" ≡ number ++ codes "ms" → ⊥
s_no_ms front number h e =
    let same = last_one front (number ++ 109 ∷ []) 115 115 (e ∙ two_ends number 109 115) in
    let P : List ℕ → Type 0 = λ t. IsNumberText t in
    no_letter number 109 refl (subst P same.0 h)

none_before : (unit text : List ℕ) (o : Option (List ℕ)) → number_before unit text ≡ o → ((number : List ℕ) → IsBefore unit text number → ⊥) → o ≡ None
none_before unit text None e h = refl
none_before unit text (Some number) e h = absurd (h number (before_found unit text number e))

later_of : {U : Type 0} (u : U) (o : Option (List ℕ)) (later r : Option (List ℕ × U)) → o ≡ None → later ≡ r → or_later u o later ≡ r
later_of u o later r e f = ap (λ z. or_later u z later) e ∙ f

-- each text with a unit is split there
pub size_split : (unit : SizeUnit) (text front : List ℕ) → text ≡ front ++ size_unit_name unit → IsNumberText front → split_measure size_units text ≡ Some (front, unit)
size_split Px text front e h = ap (λ o. or_later Px o (split_measure ((codes "rem", Rem) ∷ []) text)) (before_spelled (codes "px") text front e h)
size_split Rem text front e h =
    later_of Px (number_before (codes "px") text) _ _
    (none_before (codes "px") text (number_before (codes "px") text) refl (λ number b. rem_no_px front number (sym e ∙ b.spelled)))
    (ap (λ o. or_later Rem o None) (before_spelled (codes "rem") text front e h))

pub time_split : (unit : TimeUnit) (text front : List ℕ) → text ≡ front ++ time_unit_name unit → IsNumberText front → split_measure time_units text ≡ Some (front, unit)
time_split Ms text front e h = ap (λ o. or_later Ms o (split_measure ((codes "s", S) ∷ []) text)) (before_spelled (codes "ms") text front e h)
time_split S text front e h =
    later_of Ms (number_before (codes "ms") text) _ _
    (none_before (codes "ms") text (number_before (codes "ms") text) refl (λ number b. s_no_ms front number h (sym e ∙ b.spelled)))
    (ap (λ o. or_later S o None) (before_spelled (codes "s") text front e h))

-- what is split nowhere has no unit
pub no_size : (text : List ℕ) → split_measure size_units text ≡ None → ¬ ((unit : SizeUnit) × HasUnit (size_unit_name unit) text)
no_size text e (unit, h) = let f = size_split unit text h.front h.spelled h.is_number in cc

pub no_time : (text : List ℕ) → split_measure time_units text ≡ None → ¬ ((unit : TimeUnit) × HasUnit (time_unit_name unit) text)
no_time text e (unit, h) = let f = time_split unit text h.front h.spelled h.is_number in cc

-- a text that spells a number is that of a number
pub spelled_number : (t : List ℕ) (d : Decimal) → Spells t d → IsNumberText t
spelled_number t d s = record { parts = s.parts; is_number = s.is_number; spelled = s.spelled }

-- ---- colours

abbrev color_test : ℕ → List ℕ → Bool
color_test mark digits = (mark == 35) && (((length digits == 6) || (length digits == 8)) && list_all is_ascii_hexdigit digits)

abbrev color_if : Bool → List ℕ → Option Color
color_if b digits = if b then Some (color_of digits) else None

-- a colour that is read is spelled
six_or_eight : (n : ℕ) → ((n == 6) || (n == 8)) ≡ true → (n ≡ 6) ⊎ (n ≡ 8)
six_or_eight n t = by_six (n == 6) refl t
  where
    by_six : (b : Bool) → (n == 6) ≡ b → (b || (n == 8)) ≡ true → (n ≡ 6) ⊎ (n ≡ 8)
    by_six true e t = inl (grind (arith, nat_tests, e))
    by_six false e t = inr (grind (arith, nat_tests, t))

tested_digits : (mark : ℕ) (digits : List ℕ) → color_test mark digits ≡ true → HasDigits (mark ∷ digits) digits
tested_digits mark digits t =
    let hash : (mark == 35) ≡ true = and_left (mark == 35) _ t in
    let rest = and_right (mark == 35) (((length digits == 6) || (length digits == 8)) && list_all is_ascii_hexdigit digits) t in
    let same : mark ≡ 35 = grind (arith, nat_tests, hash) in
    record {
      spelled = ap (λ m. m ∷ digits) same;
      count = six_or_eight (length digits) (and_left ((length digits == 6) || (length digits == 8)) _ rest);
      hexadecimal = and_right ((length digits == 6) || (length digits == 8)) (list_all is_ascii_hexdigit digits) rest;
    }

color_by : (mark : ℕ) (digits : List ℕ) (c : Color) (b : Bool) → color_test mark digits ≡ b → color_if b digits ≡ Some c → SpellsColor (mark ∷ digits) c
color_by mark digits c true t e = let same : color_of digits ≡ c = cc in record { digits = digits; form = tested_digits mark digits t; is = sym same }
color_by mark digits c false t e = absurd (let h : ⊥ = cc in h)

pub color_spelled : (text : List ℕ) (c : Color) → legacy_color text ≡ Some c → SpellsColor text c
color_spelled [] c e = absurd (let h : ⊥ = cc in h)
color_spelled (mark ∷ digits) c e = color_by mark digits c (color_test mark digits) refl e

-- a colour that is spelled is read
digits_tested : (digits : List ℕ) → (length digits ≡ 6) ⊎ (length digits ≡ 8) → list_all is_ascii_hexdigit digits ≡ true → color_test 35 digits ≡ true
digits_tested digits (inl six) h = rw (six, h) refl
digits_tested digits (inr eight) h = rw (eight, h) refl

pub digits_read : (text digits : List ℕ) → HasDigits text digits → legacy_color text ≡ Some (color_of digits)
digits_read text digits h = ap legacy_color h.spelled ∙ ap (λ b. color_if b digits) (digits_tested digits h.count h.hexadecimal)

pub no_color : (text : List ℕ) → legacy_color text ≡ None → ¬ ((digits : List ℕ) × HasDigits text digits)
no_color text e (digits, h) = let f = digits_read text digits h in cc

-- ---- bytes of two digits

pub all_front : (p : ℕ → Bool) (n : ℕ) (xs : List ℕ) → list_all p xs ≡ true → list_all p (take n xs) ≡ true
all_front p zero [] h = refl
all_front p zero (x ∷ xs) h = refl
all_front p (suc n) [] h = refl
all_front p (suc n) (x ∷ xs) h = ap (λ b. b && list_all p (take n xs)) (and_left (p x) (list_all p xs) h) ∙ all_front p n xs (and_right (p x) (list_all p xs) h)

pub all_at : (p : ℕ → Bool) (xs : List ℕ) (i : ℕ) → list_all p xs ≡ true → i < length xs → p (get_or xs i 0) ≡ true
all_at p [] i h l = absurd (omega (arith, l))
all_at p (x ∷ xs) zero h l = and_left (p x) (list_all p xs) h
all_at p (x ∷ xs) (suc i) h l = all_at p xs i (and_right (p x) (list_all p xs) h) (omega (arith, l))

digit_small : (c : ℕ) → is_ascii_hexdigit c ≡ true → digit_value c < 16
digit_small c t = grind (arith, nat_tests, t)

pub byte_small : (i : ℕ) (digits : List ℕ) → i + 1 < length digits → list_all is_ascii_hexdigit digits ≡ true → byte_at i digits < 256
byte_small i digits room t =
    let high = digit_small (get_or digits i 0) (all_at is_ascii_hexdigit digits i t (omega (arith, room))) in
    let low = digit_small (get_or digits (i + 1) 0) (all_at is_ascii_hexdigit digits (i + 1) t room) in
    omega (arith, high, low)
