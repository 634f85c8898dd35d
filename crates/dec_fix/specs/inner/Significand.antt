-- What is kept of the digits read so far: a number without its last zeros, at most a limit, and how many zeros.
use Rattle.std.specs.Prelude.{◌≡◌, ℕ, ◌*◌, ◌%◌, ◌^◌, ◌<◌, ◌⊎◌, min}
use Rattle.dec_fix.specs.Decimal.{size_limit}

-- 0, or a number whose last digit is not 0
abbrev pub IsLast : ℕ → Type 0
IsLast n = (n ≡ 0) ⊎ (0 < n % 10)

-- n is size * 10^zeros, and m is this size, or the limit where it is greater
pub record IsSignificand (m zeros n : ℕ) : Type 0 where
  pub size : ℕ
  pub value : n ≡ size * 10 ^ zeros
  pub last : IsLast size
  pub kept : m ≡ min size size_limit
