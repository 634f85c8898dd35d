-- One number in several forms: by signs and sizes, through a third, and in the one form that is short.
-- Proofs of other crates may cite this.
use Rattle.std.proofs.Common.{◌≡◌, ◌≢◌, inl, ℕ, zero, suc, ◌+◌, ◌*◌, ◌/◌, ◌^◌, ◌<◌, refl, sym, ◌∙◌, ap, subst, arith, lit<, Bool, true, false, ℤ, pos, negsuc}
use Rattle.std.specs.Prelude.{◌*ℤ◌, unsigned_abs}
use Rattle.std.proofs.Math.Nat.{mul-div_cancel, one-le-pow}
use Rattle.std.proofs.Math.IntN.{pos-*ℤ-pos, negsuc-*ℤ-pos}
use Rattle.std.proofs.lemmas.Int.{unsigned_abs-mul}
use Rattle.dec_fix.specs.Decimal.{Decimal, IsSameNumber, IsShort, is_negative, signed, shortest, decimal_of}
use Rattle.dec_fix.specs.Arithmetic.{times, over_1000}
use Rattle.dec_fix.proofs.OneShortest.{shortest-same, shortest-short, short_once}

-- signs and sizes
pub signed_same : (c : ℤ) → signed (is_negative c) (unsigned_abs c) ≡ c
signed_same (pos n) = refl
signed_same (negsuc n) = refl

pub unsigned_abs-signed : (b : Bool) (n : ℕ) → unsigned_abs (signed b n) ≡ n
unsigned_abs-signed true zero = refl
unsigned_abs-signed true (suc n) = refl
unsigned_abs-signed false n = refl

pub is_negative-signed : (b : Bool) (n : ℕ) → 0 < n → is_negative (signed b n) ≡ b
is_negative-signed true zero h = absurd (omega arith)
is_negative-signed true (suc n) h = refl
is_negative-signed false n h = refl

pub signed-*ℤ : (b : Bool) (n k : ℕ) → signed b n *ℤ pos k ≡ signed b (n * k)
signed-*ℤ true zero k = let none : 0 * k ≡ 0 = omega arith in rw none refl
signed-*ℤ true (suc n) k = negsuc-*ℤ-pos n k
signed-*ℤ false n k = pos-*ℤ-pos n k

is_negative-*ℤ : (c : ℤ) (k : ℕ) → 0 < k → is_negative (c *ℤ pos k) ≡ is_negative c
is_negative-*ℤ (pos n) k h = ap is_negative (pos-*ℤ-pos n k)
is_negative-*ℤ (negsuc n) k h = ap is_negative (negsuc-*ℤ-pos n k) ∙ is_negative-signed true (suc n * k) (omega (arith, h))

-- ten to a power is above 0
pub ten_above : (k : ℕ) → 0 < 10 ^ k
ten_above k = one-le-pow k 10 (lit< tt)

-- the same, with the sign apart
record AreAlike (a b : Decimal) : Type 0 where
  sizes : unsigned_abs a.c * 10 ^ b.s ≡ unsigned_abs b.c * 10 ^ a.s
  signs : is_negative a.c ≡ is_negative b.c

same_apart : (a b : Decimal) → IsSameNumber a b → AreAlike a b
same_apart a b e = record {
  sizes = sym (unsigned_abs-mul a.c (pos (10 ^ b.s))) ∙ (ap unsigned_abs e ∙ unsigned_abs-mul b.c (pos (10 ^ a.s)));
  signs = sym (is_negative-*ℤ a.c (10 ^ b.s) (ten_above b.s)) ∙ (ap is_negative e ∙ is_negative-*ℤ b.c (10 ^ a.s) (ten_above a.s));
}

parted : (c : ℤ) (k : ℕ) → c *ℤ pos k ≡ signed (is_negative c) (unsigned_abs c * k)
parted c k = ap (λ z. z *ℤ pos k) (sym (signed_same c)) ∙ signed-*ℤ (is_negative c) (unsigned_abs c) k

same_together : (a b : Decimal) → AreAlike a b → IsSameNumber a b
same_together a b h =
    parted a.c (10 ^ b.s)
    ∙ (ap (λ n. signed (is_negative a.c) n) h.sizes
    ∙ (ap (λ v. signed v (unsigned_abs b.c * 10 ^ a.s)) h.signs
    ∙ sym (parted b.c (10 ^ a.s))))

-- two numbers with the same sizes over powers of ten, and the same signs
pub same_from : (a b : Decimal) → unsigned_abs a.c * 10 ^ b.s ≡ unsigned_abs b.c * 10 ^ a.s → is_negative a.c ≡ is_negative b.c → IsSameNumber a b
same_from a b sizes signs = same_together a b (record { sizes = sizes; signs = signs })

cancel : (a b k : ℕ) → 0 < k → a * k ≡ b * k → a ≡ b
cancel a b k h e = sym (mul-div_cancel a h) ∙ (ap (λ m. m / k) e ∙ mul-div_cancel b h)

through : (a b n x y z : ℕ) → 0 < z → a * z ≡ n * x → b * z ≡ n * y → a * y ≡ b * x
through a b n x y z h e f = cancel (a * y) (b * x) z h (omega (arith, ap (λ m. m * y) e, ap (λ m. m * x) f))

-- two numbers that are a third are one number
pub same_through : (a b n : Decimal) → IsSameNumber a n → IsSameNumber b n → IsSameNumber a b
same_through a b n e f =
    let p = same_apart a n e in
    let q = same_apart b n f in
    same_together a b (record {
      sizes = through (unsigned_abs a.c) (unsigned_abs b.c) (unsigned_abs n.c) (10 ^ a.s) (10 ^ b.s) (10 ^ n.s) (ten_above n.s) p.sizes q.sizes;
      signs = p.signs ∙ sym q.signs;
    })

abbrev made : ℤ → ℕ → Decimal
made c s = record { c = c; s = s }

-- equal numbers that are short are equal values
pub same_once : (a b : Decimal) → IsShort (unsigned_abs a.c) a.s → IsShort (unsigned_abs b.c) b.s → IsSameNumber a b → a ≡ b
same_once a b h i e =
    let p = same_apart a b e in
    let q = short_once (unsigned_abs a.c) a.s (unsigned_abs b.c) b.s h i p.sizes in
    let c : a.c ≡ b.c = sym (signed_same a.c) ∙ (ap (λ n. signed (is_negative a.c) n) q.0 ∙ (ap (λ v. signed v (unsigned_abs b.c)) p.signs ∙ signed_same b.c)) in
    ap (λ z. made z a.s) c ∙ ap (λ s. made b.c s) q.1

-- the short form is the number, is short, and is the only one
pub decimal_of-same : (negative : Bool) (n s : ℕ) → IsSameNumber (decimal_of negative n s) (record { c = signed negative n; s = s })
decimal_of-same negative n s =
    signed-*ℤ negative (shortest n s).0 (10 ^ s)
    ∙ (ap (λ m. signed negative m) (shortest-same n s)
    ∙ sym (signed-*ℤ negative n (10 ^ (shortest n s).1)))

pub decimal_of-short : (negative : Bool) (n s : ℕ) → IsShort (unsigned_abs (decimal_of negative n s).c) (decimal_of negative n s).s
decimal_of-short negative n s =
    let P : ℕ → Type 0 = λ m. IsShort m (shortest n s).1 in
    subst P (sym (unsigned_abs-signed negative (shortest n s).0)) (shortest-short n s)

pub decimal_of-once : (d : Decimal) (negative : Bool) (n s : ℕ) → IsShort (unsigned_abs d.c) d.s → IsSameNumber d (record { c = signed negative n; s = s }) → d ≡ decimal_of negative n s
decimal_of-once d negative n s h e =
    same_once d (decimal_of negative n s) h (decimal_of-short negative n s)
    (same_through d (decimal_of negative n s) (made (signed negative n) s) e (decimal_of-same negative n s))

-- products and quotients are exact
pub times-same : (d : Decimal) (n : ℕ) → IsSameNumber (times d n) (record { c = d.c *ℤ pos n; s = d.s })
times-same d n =
    let P : ℤ → Type 0 = λ z. IsSameNumber (times d n) (made z d.s) in
    subst P (sym (parted d.c n)) (decimal_of-same (is_negative d.c) (unsigned_abs d.c * n) d.s)

pub over_1000-same : (d : Decimal) → IsSameNumber (over_1000 d) (record { c = d.c; s = d.s + 3 })
over_1000-same d =
    let P : ℤ → Type 0 = λ z. IsSameNumber (over_1000 d) (made z (d.s + 3)) in
    subst P (signed_same d.c) (decimal_of-same (is_negative d.c) (unsigned_abs d.c) (d.s + 3))

pub times-is : (d : Decimal) (n : ℕ) (r : Decimal) → r ≡ times d n → IsSameNumber r (record { c = d.c *ℤ pos n; s = d.s })
times-is d n r e = let P : Decimal → Type 0 = λ x. IsSameNumber x (made (d.c *ℤ pos n) d.s) in subst P (sym e) (times-same d n)

pub over_1000-is : (d r : Decimal) → r ≡ over_1000 d → IsSameNumber r (record { c = d.c; s = d.s + 3 })
over_1000-is d r e = let P : Decimal → Type 0 = λ x. IsSameNumber x (made d.c (d.s + 3)) in subst P (sym e) (over_1000-same d)

-- a number with places that it needs is no whole number
pub no_whole : (d : Decimal) (n : ℤ) → IsShort (unsigned_abs d.c) d.s → d.s ≢ 0 → IsSameNumber d (record { c = n; s = 0 }) → ⊥
no_whole d n h some e = some (ap (λ x. x.s) (same_once d (made n 0) h (inl refl) e))
