-- The readers split exactly the texts of JSON numbers, each into its parts. Proofs of other crates may cite this.
use Rattle.std.proofs.Common.{◌≡◌, ℕ, ◌<◌, ◌==◌, ◌||◌, ◌⊎◌, inl, inr, List, [], ◌∷◌, ◌++◌, length, refl, sym, ◌∙◌, ap, subst, arith, append-nil, Bool, true, false, Some, None, Option, if◌then◌else◌}
use Rattle.std.specs.Prelude.{option_map, option_and_then}
use Rattle.std.specs.Str.{all_ascii_digits}
use Rattle.std.specs.Char.{is_ascii_digit}
use Rattle.std.proofs.lemmas.Bool.Decides.{nat_tests}
use Rattle.std.proofs.lemmas.Bool.{cases_eq}
use Rattle.dec_fix.specs.Decimal.{signed}
use Rattle.dec_fix.specs.Spelling.{unsigned, plus, minus, Exponent, none, power, NumberParts, minus_text, fraction_text, exponent_text, text_of, IsDigits, IsInt, IsExponent, IsNumber, number_of_parts}
use Rattle.dec_fix.specs.Reading.{digits_front, digits_rest, Split, sign_at, is_whole, fraction_at, exponent_sign_at, last_digits_at, exponent_at, split_tail, split_unsigned, split_of, size_of, places_of}
use Rattle.dec_fix.specs.Following.{ends_digits}
use Rattle.dec_fix.proofs.Digits.{digits_front-digits}
use Rattle.dec_fix.proofs.Again.{both, digits_front-append, digits_rest-append}

-- the parts as the readers give them
abbrev is_below : Exponent → Bool
is_below none = false
is_below (power letter unsigned ds) = false
is_below (power letter plus ds) = false
is_below (power letter minus ds) = true

abbrev exponent_digits : Exponent → List ℕ
exponent_digits none = []
exponent_digits (power letter sign ds) = ds

abbrev pub split : NumberParts → Split
split p = record { negative = p.negative; whole = p.whole; fraction = p.fraction; below = is_below p.exponent; exponent = exponent_digits p.exponent }

number_by : (negative : Bool) (whole fraction : List ℕ) (e : Exponent)
    → number_of_parts (record { negative = negative; whole = whole; fraction = fraction; exponent = e })
    ≡ record { c = signed negative (size_of (split (record { negative = negative; whole = whole; fraction = fraction; exponent = e }))); s = places_of (split (record { negative = negative; whole = whole; fraction = fraction; exponent = e })) }
number_by negative whole fraction none = refl
number_by negative whole fraction (power letter unsigned ds) = refl
number_by negative whole fraction (power letter plus ds) = refl
number_by negative whole fraction (power letter minus ds) = refl

-- the number of the parts, by what the readers give
pub number_by_split : (p : NumberParts) → number_of_parts p ≡ record { c = signed (split p).negative (size_of (split p)); s = places_of (split p) }
number_by_split p = number_by p.negative p.whole p.fraction p.exponent

-- ---- from parts to their text

exponent_ends : (e : Exponent) → IsExponent e → ends_digits (exponent_text e) ≡ true
exponent_ends none h = refl
exponent_ends (power letter sign ds) h = elim h.0 [ inl e ↦ rw e refl | inr e ↦ rw e refl ]

no_point : (e : Exponent) → IsExponent e → fraction_at (exponent_text e) ≡ Some ([], exponent_text e)
no_point none h = refl
no_point (power letter sign ds) h = elim h.0 [ inl e ↦ rw e refl | inr e ↦ rw e refl ]

fraction_read : (f : List ℕ) (e : Exponent) → all_ascii_digits f ≡ true → IsExponent e → fraction_at (fraction_text f ++ exponent_text e) ≡ Some (f, exponent_text e)
fraction_read [] e h x = no_point e x
fraction_read (d ∷ ds) e h x =
    let front = digits_front-append (d ∷ ds) (exponent_text e) h (exponent_ends e x) in
    let rest = digits_rest-append (d ∷ ds) (exponent_text e) h (exponent_ends e x) in
    rw (front, rest) (let some : (length (d ∷ ds) == 0) ≡ false = grind (arith, nat_tests) in rw some refl)

front_all : (ds : List ℕ) → all_ascii_digits ds ≡ true → digits_front ds ≡ ds
front_all ds h = ap digits_front (sym (append-nil ds)) ∙ digits_front-append ds [] h refl

rest_all : (ds : List ℕ) → all_ascii_digits ds ≡ true → digits_rest ds ≡ []
rest_all ds h = ap digits_rest (sym (append-nil ds)) ∙ digits_rest-append ds [] h refl

last_read : (b : Bool) (ds : List ℕ) → IsDigits ds → last_digits_at (b, ds) ≡ Some (b, ds)
last_read b ds h = rw (front_all ds h.digits, rest_all ds h.digits) (let some : (length ds == 0) ≡ false = grind (arith, nat_tests, h.some) in rw some refl)

no_sign : (ds : List ℕ) → IsDigits ds → exponent_sign_at ds ≡ (false, ds)
no_sign [] h = absurd (omega (arith, h.some))
no_sign (d ∷ ds) h =
    let p = both (is_ascii_digit d) (all_ascii_digits ds) h.digits in
    let no_minus : (d == 45) ≡ false = grind arith in
    let no_plus : (d == 43) ≡ false = grind arith in
    rw (no_minus, no_plus) refl

letter_read : (letter : ℕ) (t : List ℕ) → (letter ≡ 101) ⊎ (letter ≡ 69) → exponent_at (letter ∷ t) ≡ last_digits_at (exponent_sign_at t)
letter_read letter t (inl e) = rw e refl
letter_read letter t (inr e) = rw e refl

exponent_read : (e : Exponent) → IsExponent e → exponent_at (exponent_text e) ≡ Some (is_below e, exponent_digits e)
exponent_read none h = refl
exponent_read (power letter unsigned ds) h = letter_read letter ds h.0 ∙ (ap last_digits_at (no_sign ds h.1) ∙ last_read false ds h.1)
exponent_read (power letter plus ds) h = letter_read letter (43 ∷ ds) h.0 ∙ last_read false ds h.1
exponent_read (power letter minus ds) h = letter_read letter (45 ∷ ds) h.0 ∙ last_read true ds h.1

whole_read : (ds : List ℕ) → IsInt ds → is_whole ds ≡ true
whole_read [] h = absurd (omega (arith, h.digits.some))
whole_read (c ∷ []) h = refl
whole_read (c ∷ d ∷ t) h = elim (cases_eq c 48) [
  | inl e ↦ absurd (omega (arith, h.zero_alone e))
  | inr e ↦ let other : (c == 48) ≡ false = grind (arith, nat_tests) in rw other refl
]

sign_read : (negative : Bool) (ds t : List ℕ) → IsDigits ds → sign_at (minus_text negative ++ (ds ++ t)) ≡ (negative, ds ++ t)
sign_read true ds t h = refl
sign_read false [] t h = absurd (omega (arith, h.some))
sign_read false (d ∷ ds) t h =
    let p = both (is_ascii_digit d) (all_ascii_digits ds) h.digits in
    let no_minus : (d == 45) ≡ false = grind arith in
    rw no_minus refl

tail_ends : (f : List ℕ) (e : Exponent) → IsExponent e → ends_digits (fraction_text f ++ exponent_text e) ≡ true
tail_ends [] e h = exponent_ends e h
tail_ends (d ∷ ds) e h = refl

tail_read : (negative : Bool) (whole f : List ℕ) (e : Exponent) → all_ascii_digits f ≡ true → IsExponent e
    → split_tail negative whole (fraction_text f ++ exponent_text e) ≡ Some (record { negative = negative; whole = whole; fraction = f; below = is_below e; exponent = exponent_digits e })
tail_read negative whole f e h x = rw (fraction_read f e h x, exponent_read e x) refl

unsigned_read : (negative : Bool) (whole t : List ℕ) → IsInt whole → ends_digits t ≡ true → split_unsigned negative (whole ++ t) ≡ split_tail negative whole t
unsigned_read negative whole t h e =
    rw (digits_front-append whole t h.digits.digits e, digits_rest-append whole t h.digits.digits e, whole_read whole h) refl

abbrev split_from : Bool × List ℕ → Option Split
split_from p = split_unsigned p.0 p.1

-- the text of a JSON number is split into its parts
pub split_text : (p : NumberParts) → IsNumber p → split_of (text_of p) ≡ Some (split p)
split_text p h =
    ap split_from (sign_read p.negative p.whole (fraction_text p.fraction ++ exponent_text p.exponent) h.whole.digits)
    ∙ (unsigned_read p.negative p.whole (fraction_text p.fraction ++ exponent_text p.exponent) h.whole (tail_ends p.fraction p.exponent h.exponent)
    ∙ tail_read p.negative p.whole p.fraction p.exponent h.fraction h.exponent)

-- ---- from a text to its parts

sign_found : (t : List ℕ) → t ≡ minus_text (sign_at t).0 ++ (sign_at t).1
sign_found [] = refl
sign_found (c ∷ t) = elim (cases_eq c 45) [
  | inl e ↦ rw e refl
  | inr e ↦ let other : (c == 45) ≡ false = grind (arith, nat_tests) in rw other refl
]

front_and_rest : (t : List ℕ) → t ≡ digits_front t ++ digits_rest t
front_and_rest [] = refl
front_and_rest (c ∷ t) = let again = front_and_rest t in front_by c t (is_ascii_digit c) refl again
  where
    front_by : (c : ℕ) (t : List ℕ) (b : Bool) → is_ascii_digit c ≡ b → t ≡ digits_front t ++ digits_rest t → c ∷ t ≡ digits_front (c ∷ t) ++ digits_rest (c ∷ t)
    front_by c t true e again = rw e (ap (λ u. c ∷ u) again)
    front_by c t false e again = rw e refl

pub whole_found : (ds : List ℕ) → all_ascii_digits ds ≡ true → is_whole ds ≡ true → IsInt ds
whole_found [] h w = cc
whole_found (c ∷ []) h w = record { digits = record { digits = h; some = omega arith }; zero_alone = λ _. refl }
whole_found (c ∷ d ∷ t) h w = record {
  digits = record { digits = h; some = omega arith };
  zero_alone = λ e. absurd (let lead : (c == 48) ≡ true = grind (arith, nat_tests) in let w' = rw lead at w in cc);
}

fraction_of_digits : (f : List ℕ) → 0 < length f → fraction_text f ≡ 46 ∷ f
fraction_of_digits [] h = absurd (omega arith)
fraction_of_digits (d ∷ ds) h = refl

record FractionFound (t : List ℕ) (p : List ℕ × List ℕ) : Type 0 where
  text : t ≡ fraction_text p.0 ++ p.1
  digits : all_ascii_digits p.0 ≡ true

abbrev fraction_if : Bool → List ℕ → Option (List ℕ × List ℕ)
fraction_if b t = if b then None else Some (digits_front t, digits_rest t)

fraction_behind : (t : List ℕ) (p : List ℕ × List ℕ) (b : Bool) → (length (digits_front t) == 0) ≡ b → fraction_if b t ≡ Some p → FractionFound (46 ∷ t) p
fraction_behind t p true e h = cc
fraction_behind t p false e h =
    let same : (digits_front t, digits_rest t) ≡ p = cc in
    let P : List ℕ × List ℕ → Type 0 = λ q. FractionFound (46 ∷ t) q in
    subst P same (record {
      text = ap (λ u. 46 ∷ u) (front_and_rest t) ∙ ap (λ u. u ++ digits_rest t) (sym (fraction_of_digits (digits_front t) (grind (arith, nat_tests))));
      digits = digits_front-digits t;
    })

fraction_found : (t : List ℕ) (p : List ℕ × List ℕ) → fraction_at t ≡ Some p → FractionFound t p
fraction_found [] p h =
    let same : ([], []) ≡ p = cc in
    let P : List ℕ × List ℕ → Type 0 = λ q. FractionFound [] q in
    subst P same (record { text = refl; digits = refl })
fraction_found (c ∷ t) p h = elim (cases_eq c 46) [
  | inl e ↦ let P : ℕ → Type 0 = λ x. FractionFound (x ∷ t) p in
      subst P (sym e) (fraction_behind t p (length (digits_front t) == 0) refl (rw e at h))
  | inr e ↦ let other : (c == 46) ≡ false = grind (arith, nat_tests) in
      let h' : Some ([], c ∷ t) ≡ Some p = rw other at h in
      let same : ([], c ∷ t) ≡ p = cc in
      let P : List ℕ × List ℕ → Type 0 = λ q. FractionFound (c ∷ t) q in
      subst P same (record { text = refl; digits = refl })
]

record LastFound (b : Bool) (t : List ℕ) (p : Bool × List ℕ) : Type 0 where
  sign : b ≡ p.0
  text : t ≡ p.1
  digits : IsDigits p.1

abbrev end_if : Bool → Bool → List ℕ → Option (Bool × List ℕ)
end_if ended b t = if ended then Some (b, digits_front t) else None

abbrev last_if : Bool → Bool → Bool → List ℕ → Option (Bool × List ℕ)
last_if empty ended b t = if empty then None else end_if ended b t

nothing : (t : List ℕ) → length t ≡ 0 → t ≡ []
nothing [] h = refl
nothing (c ∷ t) h = absurd (omega (arith, h))

last_by : (b : Bool) (t : List ℕ) (p : Bool × List ℕ) (empty ended : Bool) → (length (digits_front t) == 0) ≡ empty → (length (digits_rest t) == 0) ≡ ended
    → last_if empty ended b t ≡ Some p → LastFound b t p
last_by b t p true ended e f h = cc
last_by b t p false false e f h = cc
last_by b t p false true e f h =
    let none_left : digits_rest t ≡ [] = nothing (digits_rest t) (grind (arith, nat_tests)) in
    let all : t ≡ digits_front t = front_and_rest t ∙ (ap (λ u. digits_front t ++ u) none_left ∙ append-nil (digits_front t)) in
    let same : (b, digits_front t) ≡ p = cc in
    let P : Bool × List ℕ → Type 0 = λ q. LastFound b t q in
    subst P same (record {
      sign = refl;
      text = all;
      digits = record { digits = digits_front-digits t; some = grind (arith, nat_tests) };
    })

last_found : (b : Bool) (t : List ℕ) (p : Bool × List ℕ) → last_digits_at (b, t) ≡ Some p → LastFound b t p
last_found b t p h = last_by b t p (length (digits_front t) == 0) (length (digits_rest t) == 0) refl refl h

record ExponentFound (t : List ℕ) (p : Bool × List ℕ) : Type 0 where
  exponent : Exponent
  is_exponent : IsExponent exponent
  text : t ≡ exponent_text exponent
  below : is_below exponent ≡ p.0
  digits : exponent_digits exponent ≡ p.1

abbrev IsLetter : ℕ → Type 0
IsLetter c = (c ≡ 101) ⊎ (c ≡ 69)

letter_of : (c : ℕ) → ((c == 101) || (c == 69)) ≡ true → IsLetter c
letter_of c h = elim (cases_eq c 101) [
  | inl e ↦ inl e
  | inr e ↦ elim (cases_eq c 69) [ inl f ↦ inr f | inr f ↦ absurd (grind (arith, nat_tests)) ]
]

signed_found : (c : ℕ) (t : List ℕ) (p : Bool × List ℕ) → IsLetter c → last_digits_at (exponent_sign_at t) ≡ Some p → ExponentFound (c ∷ t) p
signed_found c [] p l h = let f = last_found false [] p h in record {
  exponent = power c unsigned p.1;
  is_exponent = (l, f.digits);
  text = ap (λ u. c ∷ u) f.text;
  below = f.sign;
  digits = refl;
}
signed_found c (d ∷ t) p l h = elim (cases_eq d 45) [
  | inl e ↦
      let f = last_found true t p (rw e at h) in
      let P : ℕ → Type 0 = λ x. ExponentFound (c ∷ x ∷ t) p in
      subst P (sym e) (record {
        exponent = power c minus p.1;
        is_exponent = (l, f.digits);
        text = ap (λ u. c ∷ 45 ∷ u) f.text;
        below = f.sign;
        digits = refl;
      })
  | inr ne ↦
      let no_minus : (d == 45) ≡ false = grind (arith, nat_tests) in
      elim (cases_eq d 43) [
        | inl e ↦
            let f = last_found false t p (rw e at h) in
            let P : ℕ → Type 0 = λ x. ExponentFound (c ∷ x ∷ t) p in
            subst P (sym e) (record {
              exponent = power c plus p.1;
              is_exponent = (l, f.digits);
              text = ap (λ u. c ∷ 43 ∷ u) f.text;
              below = f.sign;
              digits = refl;
            })
        | inr np ↦
            let no_plus : (d == 43) ≡ false = grind (arith, nat_tests) in
            let f = last_found false (d ∷ t) p (rw (no_minus, no_plus) at h) in
            record {
              exponent = power c unsigned p.1;
              is_exponent = (l, f.digits);
              text = ap (λ u. c ∷ u) f.text;
              below = f.sign;
              digits = refl;
            }
      ]
]

abbrev exponent_if : Bool → List ℕ → Option (Bool × List ℕ)
exponent_if b t = if b then last_digits_at (exponent_sign_at t) else None

exponent_by : (c : ℕ) (t : List ℕ) (p : Bool × List ℕ) (b : Bool) → ((c == 101) || (c == 69)) ≡ b → exponent_if b t ≡ Some p → ExponentFound (c ∷ t) p
exponent_by c t p true e h = signed_found c t p (letter_of c e) h
exponent_by c t p false e h = cc

exponent_found : (t : List ℕ) (p : Bool × List ℕ) → exponent_at t ≡ Some p → ExponentFound t p
exponent_found [] p h =
    let same : (false, []) ≡ p = cc in
    let P : Bool × List ℕ → Type 0 = λ q. ExponentFound [] q in
    subst P same (record { exponent = none; is_exponent = tt; text = refl; below = refl; digits = refl })
exponent_found (c ∷ t) p h = exponent_by c t p ((c == 101) || (c == 69)) refl h

-- the text is that of these parts
pub record Found (t : List ℕ) (q : Split) : Type 0 where
  pub parts : NumberParts
  pub is_number : IsNumber parts
  pub spelled : t ≡ text_of parts
  pub same : split parts ≡ q

abbrev split_with : Bool → List ℕ → List ℕ → Bool × List ℕ → Split
split_with negative whole fraction e = record { negative = negative; whole = whole; fraction = fraction; below = e.0; exponent = e.1 }

abbrev exponent_then : Bool → List ℕ → List ℕ → Option (Bool × List ℕ) → Option Split
exponent_then negative whole fraction o = option_map (λ e. split_with negative whole fraction e) o

abbrev tail_then : Bool → List ℕ → Option (List ℕ × List ℕ) → Option Split
tail_then negative whole o = option_and_then (λ f. exponent_then negative whole f.0 (exponent_at f.1)) o

found_by_exponent : (negative : Bool) (whole t : List ℕ) (f : List ℕ × List ℕ) (q : Split) → IsInt whole → FractionFound t f
    → (o : Option (Bool × List ℕ)) → exponent_at f.1 ≡ o → exponent_then negative whole f.0 o ≡ Some q → Found (minus_text negative ++ (whole ++ t)) q
found_by_exponent negative whole t f q w ff None e h = cc
found_by_exponent negative whole t f q w ff (Some p) e h =
    let x = exponent_found f.1 p e in
    let same : split_with negative whole f.0 p ≡ q = cc in
    record {
      parts = record { negative = negative; whole = whole; fraction = f.0; exponent = x.exponent };
      is_number = record { whole = w; fraction = ff.digits; exponent = x.is_exponent };
      spelled = ap (λ u. minus_text negative ++ (whole ++ u)) (ff.text ∙ ap (λ u. fraction_text f.0 ++ u) x.text);
      same = ap (λ b. split_with negative whole f.0 (b, exponent_digits x.exponent)) x.below ∙ (ap (λ ds. split_with negative whole f.0 (p.0, ds)) x.digits ∙ same);
    }

found_by_fraction : (negative : Bool) (whole t : List ℕ) (q : Split) → IsInt whole
    → (o : Option (List ℕ × List ℕ)) → fraction_at t ≡ o → tail_then negative whole o ≡ Some q → Found (minus_text negative ++ (whole ++ t)) q
found_by_fraction negative whole t q w None e h = cc
found_by_fraction negative whole t q w (Some f) e h = found_by_exponent negative whole t f q w (fraction_found t f e) (exponent_at f.1) refl h

abbrev whole_if : Bool → Bool → List ℕ → Option Split
whole_if b negative t = if b then split_tail negative (digits_front t) (digits_rest t) else None

found_by_whole : (negative : Bool) (t : List ℕ) (q : Split) (b : Bool) → is_whole (digits_front t) ≡ b → whole_if b negative t ≡ Some q → Found (minus_text negative ++ t) q
found_by_whole negative t q false e h = cc
found_by_whole negative t q true e h =
    let P : List ℕ → Type 0 = λ u. Found (minus_text negative ++ u) q in
    subst P (sym (front_and_rest t)) (found_by_fraction negative (digits_front t) (digits_rest t) q (whole_found (digits_front t) (digits_front-digits t) e) (fraction_at (digits_rest t)) refl h)

-- what is split is the text of a JSON number
pub text_split : (t : List ℕ) (q : Split) → split_of t ≡ Some q → Found t q
text_split t q h =
    let P : List ℕ → Type 0 = λ u. Found u q in
    subst P (sym (sign_found t)) (found_by_whole (sign_at t).0 (sign_at t).1 q (is_whole (digits_front (sign_at t).1)) refl h)
