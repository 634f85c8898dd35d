-- Numbers within the bounds, by where their digits stand.
use Rattle.std.proofs.Common.{◌≡◌, ℕ, suc, ◌+◌, ◌-◌, ◌*◌, ◌%◌, ◌^◌, ◌<◌, ◌≤◌, inl, inr, min, refl, sym, ◌∙◌, ap, subst, arith, lit<, Bool, Option, None}
use Rattle.std.proofs.Math.Nat.{pow-le-pow_right, mul-le-mul_right}
use Rattle.std.proofs.lemmas.Bool.{cases_lt}
use Rattle.std.proofs.lemmas.Nat.{pow-add}
use Rattle.dec_fix.specs.Decimal.{Decimal, shortest}
use Rattle.dec_fix.specs.Reading.{within_bounds}
use Rattle.dec_fix.specs.inner.Significand.{IsSignificand, IsLast}
use Rattle.dec_fix.proofs.Scaling.{scaled_up, scaled_none}
use Rattle.dec_fix.proofs.Short.{shortest_up, shortest_down, shortest_zero}

-- at the limit or above no number is within the bounds
pub within_far : (negative : Bool) (n s : ℕ) → 10 ^ 30 ≤ n → within_bounds negative (n, s) ≡ None
within_far negative n s h = grind arith

pub within_deep : (negative : Bool) (n s : ℕ) → 30 < s → within_bounds negative (n, s) ≡ None
within_deep negative n s h = grind arith

pub within_min : (negative : Bool) (n s : ℕ) → within_bounds negative (min n (10 ^ 30), s) ≡ within_bounds negative (n, s)
within_min negative n s = elim (cases_lt n (10 ^ 30)) [
  | inl h ↦ let e : min n (10 ^ 30) ≡ n = omega arith in rw e refl
  | inr h ↦ within_far negative (min n (10 ^ 30)) s (omega arith) ∙ sym (within_far negative n s h)
]

-- n * 10^up / 10^down
pub placed_zero : (up down : ℕ) → shortest (0 * 10 ^ up) down ≡ (0, 0)
placed_zero up down = let e : 0 * 10 ^ up ≡ 0 = omega arith in rw e (shortest_zero down)

pub placed_up : (n up down : ℕ) → down ≤ up → shortest (n * 10 ^ up) down ≡ (n * 10 ^ (up - down), 0)
placed_up n up down h = let e : up ≡ (up - down) + down = omega arith in
    let P : ℕ → Type 0 = λ u. shortest (n * 10 ^ u) down ≡ (n * 10 ^ (up - down), 0) in subst P (sym e) (shortest_up n (up - down) down)

pub placed_down : (n up down : ℕ) → 0 < n % 10 → up < down → shortest (n * 10 ^ up) down ≡ (n, down - up)
placed_down n up down last h = let e : down ≡ suc (down - up - 1) + up = omega arith in let f : suc (down - up - 1) ≡ down - up = omega arith in
    let P : ℕ → Type 0 = λ d. shortest (n * 10 ^ up) d ≡ (n, down - up) in
    subst P (sym e) (shortest_down n up (down - up - 1) last ∙ ap (λ k. (n, k)) f)

-- a size at the limit or above stays there
pub placed_far : (negative : Bool) (n up down : ℕ) → 10 ^ 30 ≤ n → IsLast n → within_bounds negative (shortest (n * 10 ^ up) down) ≡ None
placed_far negative n up down h last = elim last [
  | inl zero_is ↦ absurd (omega arith)
  | inr some ↦ elim (cases_lt up down) [
    | inl below ↦ rw (placed_down n up down some below) (within_far negative n (down - up) h)
    | inr above ↦ rw (placed_up n up down above) (within_far negative (n * 10 ^ (up - down)) 0 (omega (arith, scaled_up n (up - down))))
  ]
]

-- far up and far down no number but 0 is within the bounds
pub ten_up : (n k : ℕ) → 0 < n → 30 ≤ k → 10 ^ 30 ≤ n * 10 ^ k
ten_up n k some h = let big : 10 ^ 30 ≤ 10 ^ k = pow-le-pow_right (lit< tt) h in omega (arith, big, mul-le-mul_right {m = 1} {n = n} (10 ^ k) some)

pub far_up : (negative : Bool) (n up down : ℕ) → 0 < n → down + 30 ≤ up → within_bounds negative (shortest (n * 10 ^ up) down) ≡ None
far_up negative n up down some h = rw (placed_up n up down (omega arith)) (within_far negative _ 0 (ten_up n (up - down) some (omega arith)))

pub far_down : (negative : Bool) (n up down : ℕ) → 0 < n % 10 → up + 30 < down → within_bounds negative (shortest (n * 10 ^ up) down) ≡ None
far_down negative n up down last h = rw (placed_down n up down last (omega arith)) (within_deep negative n (down - up) (omega arith))

-- an exponent past the cap tells no more than the cap
pub cap_up : (negative : Bool) (n zeros places power cap : ℕ) → IsLast n → places + 30 ≤ cap
    → within_bounds negative (shortest (n * 10 ^ (zeros + min power cap)) places) ≡ within_bounds negative (shortest (n * 10 ^ (zeros + power)) places)
cap_up negative n zeros places power cap last room = elim (cases_lt power cap) [
  | inl h ↦ let e : min power cap ≡ power = omega arith in rw e refl
  | inr h ↦ elim last [
    | inl z ↦ rw (z, placed_zero (zeros + min power cap) places, placed_zero (zeros + power) places) refl
    | inr some ↦ far_up negative n (zeros + min power cap) places (omega arith) (omega arith) ∙ sym (far_up negative n (zeros + power) places (omega arith) (omega arith))
  ]
]

pub cap_down : (negative : Bool) (n zeros places power cap : ℕ) → IsLast n → zeros + 30 < cap
    → within_bounds negative (shortest (n * 10 ^ zeros) (places + min power cap)) ≡ within_bounds negative (shortest (n * 10 ^ zeros) (places + power))
cap_down negative n zeros places power cap last room = elim (cases_lt power cap) [
  | inl h ↦ let e : min power cap ≡ power = omega arith in rw e refl
  | inr h ↦ elim last [
    | inl z ↦ rw (z, placed_zero zeros (places + min power cap), placed_zero zeros (places + power)) refl
    | inr some ↦ far_down negative n zeros (places + min power cap) some (omega arith) ∙ sym (far_down negative n zeros (places + power) some (omega arith))
  ]
]

-- from what is kept of the digits to the number of all digits
pub kept_start : IsSignificand 0 0 0
kept_start = record { size = 0; value = refl; last = inl refl; kept = refl }

pub kept_last : (m zeros n : ℕ) → IsSignificand m zeros n → m < 10 ^ 30 → IsLast m
kept_last m z n h small = let e : m ≡ h.size = omega (arith, h.kept) in rw e h.last

pub whole_up : (negative : Bool) (m zeros n places power cap : ℕ) (r : Option Decimal) → (h : IsSignificand m zeros n)
    → ((size : ℕ) → m ≡ min size (10 ^ 30) → IsLast size → r ≡ within_bounds negative (shortest (size * 10 ^ (zeros + min power cap)) places))
    → places + 30 ≤ cap → r ≡ within_bounds negative (shortest (n * 10 ^ power) (places + 0))
whole_up negative m zeros n places power cap r h gives room =
    let e : n * 10 ^ power ≡ h.size * 10 ^ (zeros + power) = rw (h.value, pow-add 10 zeros power) (omega arith) in
    let f : places + 0 ≡ places = omega arith in
    rw (e, f) (gives h.size h.kept h.last ∙ cap_up negative h.size zeros places power cap h.last room)

pub whole_down : (negative : Bool) (m zeros n places power cap : ℕ) (r : Option Decimal) → (h : IsSignificand m zeros n)
    → ((size : ℕ) → m ≡ min size (10 ^ 30) → IsLast size → r ≡ within_bounds negative (shortest (size * 10 ^ zeros) (places + min power cap)))
    → zeros + 30 < cap → r ≡ within_bounds negative (shortest (n * 10 ^ 0) (places + power))
whole_down negative m zeros n places power cap r h gives room =
    let e : n * 10 ^ 0 ≡ h.size * 10 ^ zeros = rw (scaled_none n 0 refl) h.value in
    rw e (gives h.size h.kept h.last ∙ cap_down negative h.size zeros places power cap h.last room)
