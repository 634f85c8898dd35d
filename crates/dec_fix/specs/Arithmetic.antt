-- Products, quotients, the order and whole numbers.
use Rattle.std.specs.Prelude.{◌≢◌, ℕ, ◌+◌, ◌*◌, ◌/◌, ◌^◌, false, ℤ, pos, negsuc, unsigned_abs, int_le, int_lt, ◌-◌, ◌==◌, ◌&&◌, Option, Some, None, if◌then◌else◌}
use Rattle.std.specs.declared.cmp.Ordering.{Ordering}
use Rattle.std.specs.declared.cmp.Ordering.TheVariants.{Less, Greater}
use Rattle.std.specs.Ordering.{int_cmp}
use Rattle.dec_fix.specs.Decimal.{Decimal, is_negative, decimal_of}

-- a whole number
abbrev pub whole_decimal : ℤ → Decimal
whole_decimal n = record { c = n; s = 0 }

-- the number, where it is whole and of 32 bits with a sign
abbrev pub whole_of : Decimal → Option ℤ
whole_of d = if (d.s == 0) && (int_le (negsuc (2 ^ 31 - 1)) d.c && int_lt d.c (pos (2 ^ 31))) then Some d.c else None

-- the order of the number and a whole number, both multiplied by 10^s
abbrev pub order_with : Decimal → ℕ → Ordering
order_with d n = int_cmp d.c (pos (n * 10 ^ d.s))

abbrev pub times : Decimal → ℕ → Decimal
times d n = decimal_of (is_negative d.c) (unsigned_abs d.c * n) d.s

abbrev pub over_1000 : Decimal → Decimal
over_1000 d = decimal_of (is_negative d.c) (unsigned_abs d.c) (d.s + 3)

-- a number from 0 to 1
pub record IsFromZeroToOne (d : Decimal) : Type 0 where
  pub low : order_with d 0 ≢ Less
  pub high : order_with d 1 ≢ Greater

-- the greatest whole number not above 255 d + 1/2
abbrev pub byte_of : Decimal → ℕ
byte_of d = (510 * unsigned_abs d.c + 10 ^ d.s) / (2 * 10 ^ d.s)

-- the greatest whole number not above 10000 b / 255 + 1/2
abbrev pub ten_thousandths : ℕ → ℕ
ten_thousandths b = (20000 * b + 255) / 510

-- a byte as a part of 255, to four places
abbrev pub byte_decimal : ℕ → Decimal
byte_decimal b = decimal_of false (ten_thousandths b) 4
