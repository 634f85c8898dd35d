-- Lengths in pixels.
use Rattle.std.specs.Prelude.{ℕ, ◌<◌, ◌^◌, Bool, if◌then◌else◌}
use Rattle.dec_fix.specs.Decimal.{Decimal, IsDec, IsExact}
use Rattle.dec_fix.specs.Arithmetic.{times}

-- a length in rem times the pixels of a rem; another length as it is
abbrev pub scaled : Decimal → Bool → ℕ → Decimal
scaled value is_rem base = if is_rem then times value base else value

-- what is scaled of an exact number is a number that can be written
abbrev pub ScaledAreWritten : Type 0
ScaledAreWritten = (value : Decimal) (is_rem : Bool) (base : ℕ) → IsExact value → base < 2 ^ 8
    → IsDec (scaled value is_rem base)
