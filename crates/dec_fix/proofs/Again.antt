-- What is written is read again, whatever follows that can't go on a number. Proofs of other crates may cite this.
use Rattle.std.proofs.Common.{◌≡◌, ℕ, zero, suc, ◌+◌, ◌-◌, ◌*◌, ◌/◌, ◌%◌, ◌^◌, ◌<◌, inl, inr, List, [], ◌∷◌, ◌++◌, length, refl, ◌∙◌, ap, arith, append_assoc, Bool, true, false, ◌&&◌, lit<, ◌==◌, nat_lt, ℤ, pos, negsuc}
use Rattle.std.proofs.Math.Nat.{pow-suc, one-le-pow, mul_comm, div-le_self, div-add-mod'}
use lib.Arith.{mod-mul}
use Rattle.std.specs.Fmt.{decimal}
use Rattle.std.specs.Str.{all_ascii_digits}
use Rattle.std.specs.Char.{is_ascii_digit}
use Rattle.std.proofs.lemmas.Fmt.{decimal_is_IsNumeral_wide}
use Rattle.std.specs.Prelude.{unsigned_abs}
use Rattle.dec_fix.specs.Decimal.{Decimal, shortest, is_negative, decimal_of, IsShort, IsDec}
use Rattle.dec_fix.specs.Spelling.{digits_number, digits_number_after}
use Rattle.dec_fix.specs.Writing.{last_digits, point_and, spelling}
use Rattle.dec_fix.specs.Reading.{digits_front, digits_rest}
use Rattle.dec_fix.specs.Following.{fraction_after, unsigned_at, number_at, ends_number, ends_digits}
use Rattle.dec_fix.proofs.Digits.{own, value_after-append}
use Rattle.dec_fix.proofs.Short.{shortest_here}
use Rattle.dec_fix.proofs.SameNumber.{signed_same}
use Rattle.dec_fix.proofs.LastDigits.{length-last_digits}

pub both : (a b : Bool) → a && b ≡ true → (a ≡ true) × (b ≡ true)
both true b h = (refl, h)
both false b h = cc

-- digits and what ends them
pub digits_front-append : (ds rest : List ℕ) → all_ascii_digits ds ≡ true → ends_digits rest ≡ true → digits_front (ds ++ rest) ≡ ds
digits_front-append [] [] h e = refl
digits_front-append [] (c ∷ t) h e = grind arith
digits_front-append (d ∷ ds) rest h e = let p = both (is_ascii_digit d) (all_ascii_digits ds) h in rw (p.0) (ap (λ t. d ∷ t) (digits_front-append ds rest p.1 e))

pub digits_rest-append : (ds rest : List ℕ) → all_ascii_digits ds ≡ true → ends_digits rest ≡ true → digits_rest (ds ++ rest) ≡ rest
digits_rest-append [] [] h e = refl
digits_rest-append [] (c ∷ t) h e = grind arith
digits_rest-append (d ∷ ds) rest h e = let p = both (is_ascii_digit d) (all_ascii_digits ds) h in rw (p.0) (digits_rest-append ds rest p.1 e)

pub decimal-digits : (n : ℕ) → n < 10 ^ 64 → all_ascii_digits (decimal n) ≡ true
decimal-digits n h = own.from (decimal n) ((decimal_is_IsNumeral_wide n h).0.1)

pub value-decimal : (n : ℕ) → n < 10 ^ 64 → digits_number (decimal n) ≡ n
value-decimal n h = own.same (decimal n) ((decimal_is_IsNumeral_wide n h).0.1) ∙ (decimal_is_IsNumeral_wide n h).1

pub last_digits-digits : (k n : ℕ) → all_ascii_digits (last_digits k n) ≡ true
last_digits-digits zero n = refl
last_digits-digits (suc k) n = let again = last_digits-digits k n in grind arith

pub value-last_digits : (m k n : ℕ) → digits_number_after m (last_digits k n) ≡ m * 10 ^ k + n % 10 ^ k
value-last_digits m zero n = omega arith
value-last_digits m (suc k) n =
    let again : digits_number_after (m * 10 + (48 + n / 10 ^ k % 10 - 48)) (last_digits k n) ≡ (m * 10 + (48 + n / 10 ^ k % 10 - 48)) * 10 ^ k + n % 10 ^ k = value-last_digits (m * 10 + (48 + n / 10 ^ k % 10 - 48)) k n in
    let d : 48 + n / 10 ^ k % 10 - 48 ≡ n / 10 ^ k % 10 = omega arith in
    let last : n % (10 * 10 ^ k) ≡ n / 10 ^ k % 10 * 10 ^ k + n % 10 ^ k = mod-mul n (lit< tt) (one-le-pow k 10 (lit< tt)) in
    let p : 10 ^ suc k ≡ 10 * 10 ^ k = pow-suc 10 k ∙ mul_comm (10 ^ k) 10 in
    again ∙ rw (d, p, last) (omega arith)

pub shortest_same : (n s : ℕ) → IsShort n s → shortest n s ≡ (n, s)
shortest_same n zero h = refl
shortest_same n (suc s) h = elim h [ inl e ↦ cc | inr some ↦ shortest_here n s some ]

pub ends_both : (rest : List ℕ) → ends_number rest ≡ true → ends_digits rest ≡ true
ends_both [] e = refl
ends_both (c ∷ t) e = grind arith

-- the size is read again
pub fraction_none : (negative : Bool) (whole rest : List ℕ) → ends_number rest ≡ true → fraction_after negative whole rest ≡ (decimal_of negative (digits_number whole) 0, rest)
fraction_none negative whole [] e = refl
fraction_none negative whole (c ∷ t) e = let not_point : (c == 46) ≡ false = grind arith in rw not_point refl

pub fraction_some : (negative : Bool) (whole ds rest : List ℕ) → all_ascii_digits ds ≡ true → 0 < length ds → ends_digits rest ≡ true
    → fraction_after negative whole (46 ∷ (ds ++ rest)) ≡ (decimal_of negative (digits_number (whole ++ ds)) (length ds), rest)
fraction_some negative whole ds rest h some e = rw (digits_front-append ds rest h e, digits_rest-append ds rest h e) (let t : nat_lt 0 (length ds) ≡ true = grind arith in rw t refl)

pub unsigned_split : (negative : Bool) (whole t : List ℕ) → all_ascii_digits whole ≡ true → ends_digits t ≡ true → unsigned_at negative (whole ++ t) ≡ fraction_after negative whole t
unsigned_split negative whole t h e = rw (digits_front-append whole t h e, digits_rest-append whole t h e) refl

pub fraction_again : (negative : Bool) (n s : ℕ) (rest : List ℕ) → n < 10 ^ 64 → ends_number rest ≡ true
    → unsigned_at negative (decimal (n / 10 ^ s) ++ (point_and n s ++ rest)) ≡ (decimal_of negative n s, rest)
fraction_again negative n zero rest small e =
    let one : n / 1 ≡ n = omega arith in
    rw one (unsigned_split negative (decimal n) rest (decimal-digits n small) (ends_both rest e)
    ∙ fraction_none negative (decimal n) rest e ∙ ap (λ v. (decimal_of negative v 0, rest)) (value-decimal n small))
fraction_again negative n (suc s) rest small e =
    let whole : n / 10 ^ suc s < 10 ^ 64 = omega (arith, div-le_self n (10 ^ suc s)) in
    let v : digits_number (decimal (n / 10 ^ suc s) ++ last_digits (suc s) n) ≡ n =
    value_after-append 0 (decimal (n / 10 ^ suc s)) (last_digits (suc s) n)
    ∙ value-last_digits (digits_number (decimal (n / 10 ^ suc s))) (suc s) n
    ∙ rw (value-decimal (n / 10 ^ suc s) whole) (div-add-mod' n (10 ^ suc s)) in
    let l : length (last_digits (suc s) n) ≡ suc s = length-last_digits (suc s) n in
    let pt : point_and n (suc s) ≡ 46 ∷ last_digits (suc s) n = grind arith in
    rw pt (unsigned_split negative (decimal (n / 10 ^ suc s)) (46 ∷ (last_digits (suc s) n ++ rest)) (decimal-digits (n / 10 ^ suc s) whole) refl
    ∙ fraction_some negative (decimal (n / 10 ^ suc s)) (last_digits (suc s) n) rest (last_digits-digits (suc s) n) (omega arith) (ends_both rest e)
    ∙ ap (λ x. (decimal_of negative x (length (last_digits (suc s) n)), rest)) v ∙ ap (λ x. (decimal_of negative n x, rest)) l)

-- a number begins with a digit, where it is not negative
pub not_minus : (negative : Bool) (ds t : List ℕ) → all_ascii_digits ds ≡ true → 0 < length ds → number_at (ds ++ t) ≡ unsigned_at false (ds ++ t)
not_minus negative [] t h some = absurd (omega arith)
not_minus negative (d ∷ ds) t h some = let p = both (is_ascii_digit d) (all_ascii_digits ds) h in let other : (d == 45) ≡ false = grind arith in rw other refl

-- the size that is read is the number's own
pub sized : (c : ℤ) (s : ℕ) → IsShort (unsigned_abs c) s → decimal_of (is_negative c) (unsigned_abs c) s ≡ record { c = c; s = s }
sized c s h = rw (shortest_same (unsigned_abs c) s h, signed_same c) refl

pub number_from : (c : ℤ) (s : ℕ) (rest : List ℕ) → unsigned_abs c < 10 ^ 64 → IsShort (unsigned_abs c) s → ends_number rest ≡ true
    → number_at (spelling (record { c = c; s = s }) ++ rest) ≡ (record { c = c; s = s }, rest)
number_from (pos n) s rest small short e =
    let whole : n / 10 ^ s < 10 ^ 64 = omega (arith, div-le_self n (10 ^ s)) in
    rw (append_assoc (decimal (n / 10 ^ s)) (point_and n s) rest)
    (not_minus false (decimal (n / 10 ^ s)) (point_and n s ++ rest) (decimal-digits (n / 10 ^ s) whole) ((decimal_is_IsNumeral_wide (n / 10 ^ s) whole).0.0)
    ∙ fraction_again false n s rest small e ∙ ap (λ d. (d, rest)) (sized (pos n) s short))
number_from (negsuc n) s rest small short e =
    rw (append_assoc (decimal (suc n / 10 ^ s)) (point_and (suc n) s) rest)
    (fraction_again true (suc n) s rest small e ∙ ap (λ d. (d, rest)) (sized (negsuc n) s short))

pub number_again : (d : Decimal) (rest : List ℕ) → IsDec d → ends_number rest ≡ true → number_at (spelling d ++ rest) ≡ (d, rest)
number_again d rest h e = number_from d.c d.s rest (omega (arith, h.size)) h.short e
