-- A number at the start of a text, of any length, and what follows it: an optional `-`, digits, and optionally a point
-- and digits.
use Rattle.std.specs.Prelude.{ℕ, ◌==◌, ◌&&◌, ◌||◌, not, Bool, true, List, [], ◌∷◌, ◌++◌, length, nat_lt, if◌then◌else◌}
use Rattle.std.specs.Char.{is_ascii_digit}
use Rattle.tk_io.specs.Characters.{full_stop}
use Rattle.dec_fix.specs.Decimal.{Decimal, decimal_of}
use Rattle.dec_fix.specs.Spelling.{digits_number}
use Rattle.dec_fix.specs.Reading.{digits_front, digits_rest, sign_at}

-- after the whole part: a point and digits, or none
abbrev pub fraction_after : Bool → List ℕ → List ℕ → Decimal × List ℕ
fraction_after negative whole [] = (decimal_of negative (digits_number whole) 0, [])
fraction_after negative whole (c ∷ t) =
    if (c == full_stop) && nat_lt 0 (length (digits_front t)) then (decimal_of negative (digits_number (whole ++ digits_front t)) (length (digits_front t)), digits_rest t)
    else (decimal_of negative (digits_number whole) 0, c ∷ t)

abbrev pub unsigned_at : Bool → List ℕ → Decimal × List ℕ
unsigned_at negative t = fraction_after negative (digits_front t) (digits_rest t)

abbrev pub number_at : List ℕ → Decimal × List ℕ
number_at t = unsigned_at (sign_at t).0 (sign_at t).1

-- the text can't go on a number
abbrev pub ends_number : List ℕ → Bool
ends_number [] = true
ends_number (c ∷ t) = not (is_ascii_digit c || (c == full_stop))

abbrev pub ends_digits : List ℕ → Bool
ends_digits [] = true
ends_digits (c ∷ t) = not (is_ascii_digit c)
