-- A number from 0 to 1 is no larger than ten to the power of its places.
use Rattle.std.proofs.Common.{◌≡◌, ◌≢◌, ℕ, ◌*◌, ◌^◌, ◌≤◌, refl, arith, inl, inr, ℤ, pos, negsuc}
use Rattle.std.specs.Prelude.{unsigned_abs}
use Rattle.std.specs.declared.cmp.Ordering.TheVariants.{Less, Greater}
use Rattle.std.specs.Ordering.{int_cmp}
use Rattle.std.proofs.lemmas.Bool.{cases_lt}
use Rattle.std.proofs.lemmas.Bool.Decides.{nat_tests}
use Rattle.dec_fix.specs.Decimal.{Decimal}
use Rattle.dec_fix.specs.Arithmetic.{IsFromZeroToOne}

between : (c : ℤ) (low high : ℕ) → int_cmp c (pos low) ≢ Less → int_cmp c (pos high) ≢ Greater → unsigned_abs c ≤ high
between (pos n) low high l h = elim (cases_lt high n) [
  | inl over ↦ absurd (let above : int_cmp (pos n) (pos high) ≡ Greater = grind (arith, nat_tests) in h above)
  | inr within ↦ within
]
between (negsuc n) low high l h = absurd (l refl)

pub part_size : (d : Decimal) → IsFromZeroToOne d → unsigned_abs d.c ≤ 10 ^ d.s
part_size d h = omega (arith, between d.c (0 * 10 ^ d.s) (1 * 10 ^ d.s) h.low h.high)
