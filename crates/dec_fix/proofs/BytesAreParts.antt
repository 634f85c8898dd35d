-- Each byte over 255, to four places, is a number that is read, from 0 to 1, and comes to the byte again. Each of the 256
-- is tried.
use Rattle.std.proofs.Common.{◌≡◌, ◌≢◌, ℕ, zero, suc, ◌<◌, ◌^◌, ◌==◌, ◌&&◌, Bool, true, false, refl, ◌∙◌, ap, arith, inl, inr, nat_lt, nat_le}
use Rattle.std.specs.Prelude.{unsigned_abs}
use Rattle.std.specs.declared.cmp.Ordering.{Ordering}
use Rattle.std.specs.declared.cmp.Ordering.TheVariants.{Less, Equal, Greater}
use Rattle.std.specs.Ordering.{is_ge, is_le}
use Rattle.std.proofs.lemmas.Bool.{cases_eq}
use Rattle.std.proofs.lemmas.Bool.Decides.{nat_tests}
use Rattle.dec_fix.specs.Decimal.{IsExact}
use Rattle.dec_fix.specs.Arithmetic.{IsFromZeroToOne, order_with, byte_of, byte_decimal, ten_thousandths}
use Rattle.dec_fix.proofs.Again.{both}
use Rattle.dec_fix.proofs.SameNumber.{decimal_of-short}

abbrev all_below : ℕ → (ℕ → Bool) → Bool
all_below zero test = true
all_below (suc n) test = test n && all_below n test

below : (n : ℕ) (test : ℕ → Bool) → all_below n test ≡ true → (b : ℕ) → b < n → test b ≡ true
below zero test h b l = absurd (omega (arith, l))
below (suc n) test h b l = elim (cases_eq b n) [
  | inl e ↦ ap test e ∙ (both (test n) (all_below n test) h).0
  | inr other ↦ below n test (both (test n) (all_below n test) h).1 b (omega (arith, l, other))
]

abbrev is_read : ℕ → Bool
is_read b = nat_lt (unsigned_abs (byte_decimal b).c) (10 ^ 30) && nat_le (byte_decimal b).s 30

abbrev is_part : ℕ → Bool
is_part b = is_ge (order_with (byte_decimal b) 0) && is_le (order_with (byte_decimal b) 1)

abbrev comes_again : ℕ → Bool
comes_again b = byte_of (byte_decimal b) == b

not_less : (o : Ordering) → is_ge o ≡ true → o ≢ Less
not_less Less t e = cc
not_less Equal t e = cc
not_less Greater t e = cc

not_greater : (o : Ordering) → is_le o ≡ true → o ≢ Greater
not_greater Less t e = cc
not_greater Equal t e = cc
not_greater Greater t e = cc

pub byte_exact : (b : ℕ) → b < 256 → IsExact (byte_decimal b)
byte_exact b h =
    let t = both (nat_lt (unsigned_abs (byte_decimal b).c) (10 ^ 30)) (nat_le (byte_decimal b).s 30) (below 256 is_read refl b h) in
    record {
      size = grind (arith, nat_tests, t.0);
      places = grind (arith, nat_tests, t.1);
      short = decimal_of-short false (ten_thousandths b) 4;
    }

pub byte_part : (b : ℕ) → b < 256 → IsFromZeroToOne (byte_decimal b)
byte_part b h =
    let t = both (is_ge (order_with (byte_decimal b) 0)) (is_le (order_with (byte_decimal b) 1)) (below 256 is_part refl b h) in
    record { low = not_less (order_with (byte_decimal b) 0) t.0; high = not_greater (order_with (byte_decimal b) 1) t.1 }

pub byte_again : (b : ℕ) → b < 256 → byte_of (byte_decimal b) ≡ b
byte_again b h = let t = below 256 comes_again refl b h in grind (arith, nat_tests, t)
