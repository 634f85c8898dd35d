-- What is written is a JSON number's text, and is the number.
use Rattle.std.proofs.Common.{◌≡◌, ℕ, zero, suc, ◌+◌, ◌*◌, ◌/◌, ◌^◌, ◌<◌, ◌==◌, List, [], ◌∷◌, ◌++◌, length, refl, sym, ◌∙◌, ap, subst, arith, append-nil, append_assoc, Bool, true, false, ℤ, pos, negsuc}
use Rattle.std.specs.Prelude.{unsigned_abs}
use Rattle.std.proofs.Math.Nat.{div-le_self, div-add-mod'}
use Rattle.std.specs.Fmt.{decimal}
use Rattle.dec_fix.specs.Decimal.{Decimal, IsSameNumber, IsDec, is_negative, signed}
use Rattle.dec_fix.specs.Spelling.{NumberParts, none, minus_text, fraction_text, IsInt, digits_number, number_of_parts, Spells}
use Rattle.dec_fix.specs.Writing.{last_digits, point_and, spelling, point_spelling}
use Rattle.dec_fix.proofs.Digits.{value_after-append}
use Rattle.dec_fix.proofs.LastDigits.{length-last_digits}
use Rattle.dec_fix.proofs.Again.{decimal-digits, value-decimal, last_digits-digits, value-last_digits}
use Rattle.dec_fix.proofs.Numeral.{is_whole-decimal}
use Rattle.dec_fix.proofs.Grammar.{whole_found}
use Rattle.dec_fix.proofs.SameNumber.{signed_same, unsigned_abs-signed, is_negative-signed, same_from}

abbrev made : ℤ → ℕ → Decimal
made c s = record { c = c; s = s }

-- digits of a whole number
decimal_int : (n : ℕ) → n < 10 ^ 64 → IsInt (decimal n)
decimal_int n h = whole_found (decimal n) (decimal-digits n h) (is_whole-decimal n h)

abbrev written : Bool → ℕ → ℕ → NumberParts
written negative n s = record { negative = negative; whole = decimal (n / 10 ^ s); fraction = last_digits s n; exponent = none }

point_text : (n s : ℕ) → point_and n s ≡ fraction_text (last_digits s n) ++ []
point_text n zero = refl
point_text n (suc s) =
    let p : point_and n (suc s) ≡ 46 ∷ last_digits (suc s) n = grind arith in
    p ∙ sym (append-nil (46 ∷ last_digits (suc s) n))

written_number : (c : ℤ) (s : ℕ) → unsigned_abs c < 10 ^ 64 → number_of_parts (written (is_negative c) (unsigned_abs c) s) ≡ made c s
written_number c s h =
    let n = unsigned_abs c in
    let small : unsigned_abs c / 10 ^ s < 10 ^ 64 = omega (arith, div-le_self (unsigned_abs c) (10 ^ s), h) in
    let v : digits_number (decimal (unsigned_abs c / 10 ^ s) ++ last_digits s (unsigned_abs c)) ≡ unsigned_abs c =
    value_after-append 0 (decimal (n / 10 ^ s)) (last_digits s n)
    ∙ (value-last_digits (digits_number (decimal (n / 10 ^ s))) s n
    ∙ rw (value-decimal (n / 10 ^ s) small) (div-add-mod' n (10 ^ s))) in
    let size : digits_number (decimal (unsigned_abs c / 10 ^ s) ++ last_digits s (unsigned_abs c)) * 10 ^ 0 ≡ unsigned_abs c = rw v (omega arith) in
    let places : length (last_digits s (unsigned_abs c)) + 0 ≡ s = rw (length-last_digits s n) (omega arith) in
    ap (λ m. made (signed (is_negative c) m) (length (last_digits s n) + 0)) size
    ∙ (ap (λ k. made (signed (is_negative c) n) k) places ∙ ap (λ z. made z s) (signed_same c))

pub spelling_spells : (d : Decimal) → IsDec d → Spells (spelling d) d
spelling_spells d h =
    let small : unsigned_abs d.c / 10 ^ d.s < 10 ^ 64 = omega (arith, div-le_self (unsigned_abs d.c) (10 ^ d.s), h.size) in
    let P : Decimal → Type 0 = λ x. IsSameNumber d x in
    record {
      parts = written (is_negative d.c) (unsigned_abs d.c) d.s;
      is_number = record {
        whole = decimal_int (unsigned_abs d.c / 10 ^ d.s) small;
        fraction = last_digits-digits d.s (unsigned_abs d.c);
        exponent = tt;
      };
      spelled = ap (λ u. minus_text (is_negative d.c) ++ (decimal (unsigned_abs d.c / 10 ^ d.s) ++ u)) (point_text (unsigned_abs d.c) d.s);
      same = subst P (sym (written_number d.c d.s (omega (arith, h.size)))) refl;
    }

-- a whole number with a point and a zero
abbrev pointed : Bool → ℕ → NumberParts
pointed negative n = record { negative = negative; whole = decimal n; fraction = 48 ∷ []; exponent = none }

pointed_size : (n : ℕ) → n < 10 ^ 64 → digits_number (decimal n ++ (48 ∷ [])) * 10 ^ 0 ≡ n * 10
pointed_size n h = rw (value_after-append 0 (decimal n) (48 ∷ []), value-decimal n h) (omega arith)

tens_sign : (c : ℤ) → is_negative c ≡ is_negative (signed (is_negative c) (unsigned_abs c * 10))
tens_sign (pos n) = refl
tens_sign (negsuc n) = sym (is_negative-signed true (suc n * 10) (omega arith))

tens_same : (c : ℤ) → IsSameNumber (made c 0) (made (signed (is_negative c) (unsigned_abs c * 10)) 1)
tens_same c = same_from (made c 0) (made (signed (is_negative c) (unsigned_abs c * 10)) 1)
    (rw (unsigned_abs-signed (is_negative c) (unsigned_abs c * 10)) (omega arith)) (tens_sign c)

pointed_text : (sign whole : List ℕ) → (sign ++ (whole ++ [])) ++ (46 ∷ 48 ∷ []) ≡ sign ++ (whole ++ (46 ∷ 48 ∷ []))
pointed_text sign whole = append_assoc sign (whole ++ []) (46 ∷ 48 ∷ []) ∙ ap (λ u. sign ++ u) (append_assoc whole [] (46 ∷ 48 ∷ []))

whole_spells : (c : ℤ) → unsigned_abs c < 10 ^ 64 → Spells (point_spelling (made c 0)) (made c 0)
whole_spells c h =
    let one : unsigned_abs c / 10 ^ 0 ≡ unsigned_abs c = omega arith in
    let P : ℕ → Type 0 = λ m. IsSameNumber (made c 0) (made (signed (is_negative c) m) 1) in
    record {
      parts = pointed (is_negative c) (unsigned_abs c);
      is_number = record { whole = decimal_int (unsigned_abs c) h; fraction = refl; exponent = tt };
      spelled = pointed_text (minus_text (is_negative c)) (decimal (unsigned_abs c / 10 ^ 0))
          ∙ ap (λ n. minus_text (is_negative c) ++ (decimal n ++ (46 ∷ 48 ∷ []))) one;
      same = subst P (sym (pointed_size (unsigned_abs c) h)) (tens_same c);
    }

point_by : (c : ℤ) (s : ℕ) → IsDec (made c s) → Spells (point_spelling (made c s)) (made c s)
point_by c zero h = whole_spells c (omega (arith, h.size))
point_by c (suc s) h =
    let p : point_spelling (made c (suc s)) ≡ spelling (made c (suc s)) = (let t : (suc s == 0) ≡ false = grind arith in rw t (append-nil _)) in
    let P : List ℕ → Type 0 = λ u. Spells u (made c (suc s)) in
    subst P (sym p) (spelling_spells (made c (suc s)) h)

pub point_spells : (d : Decimal) → IsDec d → Spells (point_spelling d) d
point_spells d h = point_by d.c d.s h
