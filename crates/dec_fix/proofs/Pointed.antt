-- What is written with a point is read again. Proofs of other crates may cite this.
use Rattle.std.proofs.Common.{◌≡◌, ℕ, zero, suc, ◌+◌, ◌*◌, ◌/◌, ◌%◌, ◌^◌, ◌<◌, List, [], ◌∷◌, ◌++◌, refl, ◌∙◌, ap, arith, append_assoc, append-nil, Bool, true, false, ◌==◌, ℤ, pos, negsuc}
use Rattle.std.specs.Fmt.{decimal}
use Rattle.std.proofs.lemmas.Fmt.{decimal_is_IsNumeral_wide}
use Rattle.std.specs.Prelude.{unsigned_abs}
use Rattle.dec_fix.specs.Decimal.{Decimal, signed, decimal_of, IsDec}
use Rattle.dec_fix.specs.Spelling.{digits_number}
use Rattle.dec_fix.specs.Writing.{spelling, point_spelling}
use Rattle.dec_fix.specs.Following.{unsigned_at, number_at, ends_number}
use Rattle.dec_fix.proofs.Digits.{value_after-append}
use Rattle.dec_fix.proofs.Again.{number_again, unsigned_split, fraction_some, decimal-digits, value-decimal, ends_both, not_minus}

-- the number times ten, over ten
tenth : (negative : Bool) (n : ℕ) → decimal_of negative (n * 10 + 0) 1 ≡ record { c = signed negative n; s = 0 }
tenth negative n =
    let r : ((n * 10 + 0) % 10 == 0) ≡ true = grind arith in
    let q : (n * 10 + 0) / 10 ≡ n = omega arith in
    rw (r, q) refl

whole_again : (negative : Bool) (n : ℕ) (rest : List ℕ) → n < 10 ^ 64 → ends_number rest ≡ true →
    unsigned_at negative (decimal n ++ (46 ∷ 48 ∷ rest)) ≡ (record { c = signed negative n; s = 0 }, rest)
whole_again negative n rest h e =
    let v : digits_number (decimal n ++ (48 ∷ [])) ≡ n * 10 + 0 = value_after-append 0 (decimal n) (48 ∷ []) ∙ ap (λ m. m * 10 + 0) (value-decimal n h) in
    unsigned_split negative (decimal n) (46 ∷ 48 ∷ rest) (decimal-digits n h) refl
    ∙ fraction_some negative (decimal n) (48 ∷ []) rest refl (omega arith) (ends_both rest e)
    ∙ ap (λ m. (decimal_of negative m 1, rest)) v ∙ ap (λ d. (d, rest)) (tenth negative n)

from_whole : (c : ℤ) (rest : List ℕ) → unsigned_abs c < 10 ^ 64 → ends_number rest ≡ true → number_at (point_spelling (record { c = c; s = 0 }) ++ rest) ≡ (record { c = c; s = 0 }, rest)
from_whole (pos n) rest h e =
    let one : n / 10 ^ zero ≡ n = omega arith in
    rw (append-nil (decimal (n / 10 ^ zero)), one, append_assoc (decimal n) (46 ∷ 48 ∷ []) rest)
    (not_minus false (decimal n) (46 ∷ 48 ∷ rest) (decimal-digits n h) ((decimal_is_IsNumeral_wide n h).0.0) ∙ whole_again false n rest h e)
from_whole (negsuc n) rest h e =
    let one : suc n / 10 ^ zero ≡ suc n = omega arith in
    rw (append-nil (decimal (suc n / 10 ^ zero)), one, append_assoc (decimal (suc n)) (46 ∷ 48 ∷ []) rest)
    (whole_again true (suc n) rest h e)

from : (c : ℤ) (s : ℕ) (rest : List ℕ) → IsDec (record { c = c; s = s }) → ends_number rest ≡ true → number_at (point_spelling (record { c = c; s = s }) ++ rest) ≡ (record { c = c; s = s }, rest)
from c zero rest h e = from_whole c rest (omega (arith, h.size)) e
from c (suc s) rest h e =
    let p : point_spelling (record { c = c; s = suc s }) ≡ spelling (record { c = c; s = suc s }) = let t : (suc s == 0) ≡ false = grind arith in rw t (append-nil _) in
    rw p (number_again (record { c = c; s = suc s }) rest h e)

pub point_again : (d : Decimal) (rest : List ℕ) → IsDec d → ends_number rest ≡ true → number_at (point_spelling d ++ rest) ≡ (d, rest)
point_again d rest h e = from d.c d.s rest h e
