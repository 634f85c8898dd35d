-- Decimal numbers: a whole number over a power of ten, without fractions.
use Rattle.std.specs.Prelude.{suc, zero, ◌≡◌, ℕ, ◌/◌, ◌%◌, ◌^◌, ◌<◌, ◌≤◌, ◌==◌, ◌⊎◌, Bool, true, false, ℤ, pos, negsuc, neg_ℤ, ◌*ℤ◌, unsigned_abs, if◌then◌else◌}

-- the number c / 10^s
pub record Decimal : Type 0 where
  pub c : ℤ
  pub s : ℕ

-- a and b are one number: their fractions are equal when multiplied out
abbrev pub IsSameNumber : Decimal → Decimal → Type 0
IsSameNumber a b = a.c *ℤ pos (10 ^ b.s) ≡ b.c *ℤ pos (10 ^ a.s)

-- n / 10^s can have no fewer places: it has none, or n is no multiple of ten
abbrev pub IsShort : ℕ → ℕ → Type 0
IsShort n s = (s ≡ 0) ⊎ (0 < n % 10)

-- the size of c is below this where a number is read, ..
abbrev pub size_limit : ℕ
size_limit = 10 ^ 30

-- .. and s is at most this
abbrev pub most_places : ℕ
most_places = 30

-- a number that is accepted where one is read
pub record IsExact (d : Decimal) : Type 0 where
  pub size : unsigned_abs d.c < size_limit
  pub places : d.s ≤ most_places
  pub short : IsShort (unsigned_abs d.c) d.s

-- the same of numbers that are computed with: a thousand times what is read, and three places more
abbrev pub computed_limit : ℕ
computed_limit = 10 ^ 33

abbrev pub most_computed_places : ℕ
most_computed_places = 33

-- a number that is computed with
pub record IsDec (d : Decimal) : Type 0 where
  pub size : unsigned_abs d.c < computed_limit
  pub places : d.s ≤ most_computed_places
  pub short : IsShort (unsigned_abs d.c) d.s

abbrev pub is_negative : ℤ → Bool
is_negative (pos n) = false
is_negative (negsuc n) = true

abbrev pub signed : Bool → ℕ → ℤ
signed negative n = if negative then neg_ℤ (pos n) else pos n

-- n / 10^s with as few places as it can have
abbrev pub shortest : ℕ → ℕ → ℕ × ℕ
shortest n zero = (n, 0)
shortest n (suc s) = if n % 10 == 0 then shortest (n / 10) s else (n, suc s)

-- the number with this sign and the size n / 10^s, with as few places as it can have
abbrev pub decimal_of : Bool → ℕ → ℕ → Decimal
decimal_of negative n s = record { c = signed negative (shortest n s).0; s = (shortest n s).1 }
