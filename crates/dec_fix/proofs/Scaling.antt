-- Powers of ten.
use Rattle.std.proofs.Common.{◌≡◌, ℕ, ◌+◌, ◌*◌, ◌%◌, ◌^◌, ◌<◌, ◌≤◌, inl, inr, min, arith, add-one}
use Rattle.std.proofs.Math.Nat.{pow-suc, pow-zero, one-le-pow, min-eq_left, min-eq_right, le-mul_of_pos_right}
use Rattle.std.proofs.lemmas.Bool.{cases_lt}
use Rattle.dec_fix.specs.inner.Significand.{IsSignificand}

pub ten_step : (n k : ℕ) → n * 10 * 10 ^ k ≡ n * 10 ^ (k + 1)
ten_step n k = rw (add-one k, pow-suc 10 k) (omega arith)

pub ten_more : (n k : ℕ) → n * 10 ^ (k + 1) ≡ n * 10 ^ k * 10
ten_more n k = rw (add-one k, pow-suc 10 k) (omega arith)

pub scaled_none : (n k : ℕ) → k ≡ 0 → n * 10 ^ k ≡ n
scaled_none n k e = rw (e, pow-zero 10) (omega arith)

pub scaled_up : (n k : ℕ) → n ≤ n * 10 ^ k
scaled_up n k = le-mul_of_pos_right n (one-le-pow k 10 (omega arith))

-- cutting off at the limit early changes nothing
pub min_early : (size k d limit : ℕ) → min (min (min size limit * 10 ^ k) limit + d) limit ≡ min (size * 10 ^ k + d) limit
min_early size k d limit = elim (cases_lt size limit) [
  | inl h ↦ rw (min-eq_left {n = size} {m = limit} (omega arith)) (omega arith)
  | inr h ↦ rw (min-eq_right {n = limit} {m = size} h) (omega (arith, scaled_up size k, scaled_up limit k))
]

pub holds_zero : (m zeros n : ℕ) → IsSignificand m zeros n → IsSignificand m (zeros + 1) (n * 10 + 0)
holds_zero m zeros n h = record {
  size = h.size;
  value = omega (arith, h.value, ten_more h.size zeros);
  last = h.last;
  kept = h.kept;
}

pub holds_digit : (m zeros n d : ℕ) → d < 10 → 0 < d → IsSignificand m zeros n → IsSignificand (min (min (m * 10 ^ (zeros + 1)) (10 ^ 30) + d) (10 ^ 30)) 0 (n * 10 + d)
holds_digit m zeros n d small some h = record {
  size = h.size * 10 ^ (zeros + 1) + d;
  value = omega (arith, h.value, ten_more h.size zeros, pow-zero 10);
  last = let e : (h.size * 10 ^ (zeros + 1) + d) % 10 ≡ d = omega (arith, ten_more h.size zeros) in inr (omega arith);
  kept = rw h.kept (min_early h.size (zeros + 1) d (10 ^ 30));
}
