-- Exact numbers, their multiples up to a thousand, and their thousandths are numbers that can be written.
use Rattle.std.proofs.Common.{ℕ, zero, suc, ◌+◌, ◌*◌, ◌/◌, ◌%◌, ◌^◌, ◌<◌, ◌≤◌, ◌==◌, Bool, true, false, arith, unsigned_abs}
use Rattle.std.specs.Prelude.{if◌then◌else◌}
use Rattle.std.proofs.Math.Nat.{div-le_self, mul-le-mul_left}
use Rattle.dec_fix.specs.Decimal.{Decimal, IsDec, IsExact, is_negative, shortest, decimal_of}
use Rattle.dec_fix.specs.Arithmetic.{times, over_1000}
use Rattle.dec_fix.proofs.OneShortest.{shortest-short}
use Rattle.dec_fix.proofs.SameNumber.{unsigned_abs-signed}
use Rattle.transforms.specs.Scaling.{ScaledAreWritten}

pub exact_dec : (d : Decimal) → IsExact d → IsDec d
exact_dec d h = record { size = omega (arith, h.size); places = omega (arith, h.places); short = h.short }

shortest_if : (b : Bool) (n s : ℕ) (p : ℕ × ℕ) → (p.0 ≤ n / 10) × (p.1 ≤ s) → ((if b then p else (n, suc s)).0 ≤ n) × ((if b then p else (n, suc s)).1 ≤ suc s)
shortest_if true n s p h = (omega (arith, h.0, div-le_self n 10), omega (arith, h.1))
shortest_if false n s p h = (omega arith, omega arith)

shortest_within : (n s : ℕ) → ((shortest n s).0 ≤ n) × ((shortest n s).1 ≤ s)
shortest_within n zero = (omega arith, omega arith)
shortest_within n (suc s) = shortest_if (n % 10 == 0) n s (shortest (n / 10) s) (shortest_within (n / 10) s)

made_dec : (b : Bool) (n s : ℕ) → n < 10 ^ 33 → s ≤ 33 → IsDec (decimal_of b n s)
made_dec b n s h k =
    let w = shortest_within n s in
    record {
      size = rw (unsigned_abs-signed b (shortest n s).0) (omega (arith, w.0, h));
      places = omega (arith, w.1, k);
      short = rw (unsigned_abs-signed b (shortest n s).0) (shortest-short n s);
    }

product : (c k : ℕ) → c < 10 ^ 30 → k ≤ 1000 → c * k < 10 ^ 33
product c k h i = let most : c * k ≤ c * 1000 = mul-le-mul_left c i in omega (arith, most, h)

pub times_dec : (d : Decimal) (k : ℕ) → IsExact d → k ≤ 1000 → IsDec (times d k)
times_dec d k h i = made_dec (is_negative d.c) (unsigned_abs d.c * k) d.s (product (unsigned_abs d.c) k h.size i) (omega (arith, h.places))

pub over_dec : (d : Decimal) → IsExact d → IsDec (over_1000 d)
over_dec d h = made_dec (is_negative d.c) (unsigned_abs d.c) (d.s + 3) (omega (arith, h.size)) (omega (arith, h.places))

pub scaled_dec : ScaledAreWritten
scaled_dec d true k h i = times_dec d k h (omega (arith, i))
scaled_dec d false k h i = exact_dec d h
