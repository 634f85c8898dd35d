-- What is written of a decimal is a JSON number.
use Rattle.std.proofs.Common.{◌≡◌, ℕ, zero, suc, ◌+◌, ◌/◌, ◌%◌, ◌^◌, ◌<◌, ◌⊎◌, inl, inr, List, [], ◌∷◌, ◌++◌, refl, arith, append_assoc, Bool, true, false, ◌==◌, ℤ, pos, negsuc}
use Rattle.std.specs.Prelude.{unsigned_abs}
use Rattle.std.specs.Str.{all_ascii_digits}
use Rattle.std.specs.Char.{is_ascii_digit}
use Rattle.std.specs.Fmt.{decimal}
use Rattle.std.proofs.Math.Nat.{div-le_self}
use Rattle.std.proofs.lemmas.Bool.Decides.{nat_tests}
use Rattle.grammar.specs.Grammar.{Reads, no_byte, one_byte, both, left, right, no_more, more, by_name, many, named, within}
use Rattle.json_span.specs.Grammar.{number, digit, int, frac, optional}
use Rattle.json_span.specs.Predictive.{rules}
use Rattle.dec_fix.specs.Decimal.{Decimal, IsExact}
use Rattle.dec_fix.specs.Reading.{is_whole}
use Rattle.dec_fix.specs.Writing.{spelling, point_and, last_digits}
use Rattle.dec_fix.proofs.Again as again
use Rattle.dec_fix.proofs.Numeral.{is_whole-decimal}

digit_in : (c : ℕ) → is_ascii_digit c ≡ true → within 48 57 c ≡ true
digit_in c h = grind (arith, nat_tests)

digits_read : (ds t : List ℕ) → all_ascii_digits ds ≡ true → Reads rules (many digit) (ds ++ t) t
digits_read [] t h = no_more
digits_read (c ∷ ds) t h = let p = again.both (is_ascii_digit c) (all_ascii_digits ds) h in more (one_byte (digit_in c p.0)) (digits_read ds t p.1)

zero_or_above : (c : ℕ) → is_ascii_digit c ≡ true → (c ≡ 48) ⊎ (within 49 57 c ≡ true)
zero_or_above c h = pick (c == 48) refl
  where
    pick : (b : Bool) → (c == 48) ≡ b → (c ≡ 48) ⊎ (within 49 57 c ≡ true)
    pick true e = inl (grind (arith, nat_tests))
    pick false e = inr (grind (arith, nat_tests))

above : (c d : ℕ) (ds : List ℕ) → is_ascii_digit c ≡ true → is_whole (c ∷ d ∷ ds) ≡ true → within 49 57 c ≡ true
above c d ds h w = grind (arith, nat_tests)

whole_read : (ds t : List ℕ) → all_ascii_digits ds ≡ true → is_whole ds ≡ true → Reads rules int (ds ++ t) t
whole_read [] t h w = cc
whole_read (c ∷ []) t h w = let p = again.both (is_ascii_digit c) true h in
    elim (zero_or_above c p.0) [ inl e ↦ left (one_byte (rw e refl)) | inr a ↦ right (both (one_byte a) no_more) ]
whole_read (c ∷ d ∷ ds) t h w = let p = again.both (is_ascii_digit c) (all_ascii_digits (d ∷ ds)) h in right (both (one_byte (above c d ds p.0 w)) (digits_read (d ∷ ds) t p.1))

point_read : (n s : ℕ) (t : List ℕ) → Reads rules (optional frac) (point_and n s ++ t) t
point_read n zero t = right no_byte
point_read n (suc s) t =
    let e : point_and n (suc s) ≡ 46 ∷ last_digits (suc s) n = grind arith in
    let p = again.both (is_ascii_digit (48 + n / 10 ^ s % 10)) (all_ascii_digits (last_digits s n)) (again.last_digits-digits (suc s) n) in
    rw e (left (both (one_byte refl) (both (one_byte (digit_in (48 + n / 10 ^ s % 10) p.0)) (digits_read (last_digits s n) t p.1))))

unsigned_read : (n s : ℕ) (t : List ℕ) → n < 10 ^ 64 → Reads rules int (decimal (n / 10 ^ s) ++ (point_and n s ++ t)) (point_and n s ++ t)
unsigned_read n s t h =
    let small : n / 10 ^ s < 10 ^ 64 = omega (arith, div-le_self n (10 ^ s)) in
    whole_read (decimal (n / 10 ^ s)) (point_and n s ++ t) (again.decimal-digits (n / 10 ^ s) small) (is_whole-decimal (n / 10 ^ s) small)

from : (c : ℤ) (s : ℕ) (t : List ℕ) → unsigned_abs c < 10 ^ 64 → Reads rules (named number) (spelling (record { c = c; s = s }) ++ t) t
from (pos n) s t h = rw (append_assoc (decimal (n / 10 ^ s)) (point_and n s) t)
    (by_name (both (right no_byte) (both (unsigned_read n s t h) (both (point_read n s t) (right no_byte)))))
from (negsuc n) s t h = rw (append_assoc (decimal (suc n / 10 ^ s)) (point_and (suc n) s) t)
    (by_name (both (left (one_byte refl)) (both (unsigned_read (suc n) s t h) (both (point_read (suc n) s t) (right no_byte)))))

pub spelling_reads : (d : Decimal) (t : List ℕ) → IsExact d → Reads rules (named number) (spelling d ++ t) t
spelling_reads d t h = from d.c d.s t (omega (arith, h.size))
