-- How a decimal is written.
use Rattle.std.specs.Prelude.{zero, suc, ℕ, ◌+◌, ◌/◌, ◌%◌, ◌^◌, ◌==◌, List, [], ◌∷◌, ◌++◌, unsigned_abs, if◌then◌else◌}
use Rattle.std.specs.Fmt.{decimal}
use Rattle.tk_io.specs.Characters.{hyphen, full_stop, digit_zero}
use Rattle.dec_fix.specs.Decimal.{Decimal, is_negative}

-- the last k digits of n
abbrev pub last_digits : ℕ → ℕ → List ℕ
last_digits zero n = []
last_digits (suc k) n = (digit_zero + n / 10 ^ k % 10) ∷ last_digits k n

-- a point and s digits, or nothing
abbrev pub point_and : ℕ → ℕ → List ℕ
point_and n s = if s == 0 then [] else full_stop ∷ last_digits s n

abbrev pub sign_of : Decimal → List ℕ
sign_of d = if is_negative d.c then hyphen ∷ [] else []

-- `-` where the number is negative, the whole part, and for s above 0 a point and s digits
abbrev pub spelling : Decimal → List ℕ
spelling d = sign_of d ++ (decimal (unsigned_abs d.c / 10 ^ d.s) ++ point_and (unsigned_abs d.c) d.s)

-- the same with `.0` where there is no point
abbrev pub point_spelling : Decimal → List ℕ
point_spelling d = spelling d ++ (if d.s == 0 then full_stop ∷ digit_zero ∷ [] else [])
