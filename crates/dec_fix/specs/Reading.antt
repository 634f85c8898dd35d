-- The number that a text spells, as a function of the text.
use Rattle.std.specs.Prelude.{ℕ, ◌+◌, ◌*◌, ◌^◌, ◌==◌, ◌&&◌, ◌||◌, Bool, true, false, List, [], ◌∷◌, ◌++◌, length, nat_lt, nat_le, Option, Some, None, is_some, if◌then◌else◌, option_map, option_and_then, unsigned_abs}
use Rattle.std.specs.Char.{is_ascii_digit}
use Rattle.tk_io.specs.Characters.{plus_sign, hyphen, full_stop, digit_zero, capital_e, small_e}
use Rattle.dec_fix.specs.Decimal.{Decimal, signed, decimal_of, size_limit, most_places}
use Rattle.dec_fix.specs.Spelling.{digits_number}

-- the digits at the start
abbrev pub digits_front : List ℕ → List ℕ
digits_front [] = []
digits_front (c ∷ t) = if is_ascii_digit c then c ∷ digits_front t else []

-- what follows them
abbrev pub digits_rest : List ℕ → List ℕ
digits_rest [] = []
digits_rest (c ∷ t) = if is_ascii_digit c then digits_rest t else c ∷ t

-- a spelling, split into its signs and digits
pub record Split : Type 0 where
  pub negative : Bool
  pub whole : List ℕ
  pub fraction : List ℕ
  pub below : Bool
  pub exponent : List ℕ

-- whether a `-` stands at the start, and what follows
abbrev pub sign_at : List ℕ → Bool × List ℕ
sign_at [] = (false, [])
sign_at (c ∷ t) = if c == hyphen then (true, t) else (false, c ∷ t)

-- digits without a leading zero, save `0` itself
abbrev pub is_whole : List ℕ → Bool
is_whole [] = false
is_whole (c ∷ []) = true
is_whole (c ∷ d ∷ t) = if c == digit_zero then false else true

-- a point and digits or nothing, and what follows
abbrev pub fraction_at : List ℕ → Option (List ℕ × List ℕ)
fraction_at [] = Some ([], [])
fraction_at (c ∷ t) =
    if c == full_stop then (if length (digits_front t) == 0 then None else Some (digits_front t, digits_rest t))
    else Some ([], c ∷ t)

-- whether the exponent is below 0, and what follows its sign
abbrev pub exponent_sign_at : List ℕ → Bool × List ℕ
exponent_sign_at [] = (false, [])
exponent_sign_at (c ∷ t) = if c == hyphen then (true, t) else (if c == plus_sign then (false, t) else (false, c ∷ t))

-- digits to the end
abbrev pub last_digits_at : Bool × List ℕ → Option (Bool × List ℕ)
last_digits_at p =
    if length (digits_front p.1) == 0 then None
    else (if length (digits_rest p.1) == 0 then Some (p.0, digits_front p.1) else None)

-- nothing, or an exponent to the end
abbrev pub exponent_at : List ℕ → Option (Bool × List ℕ)
exponent_at [] = Some (false, [])
exponent_at (c ∷ t) = if (c == small_e) || (c == capital_e) then last_digits_at (exponent_sign_at t) else None

-- a point and digits or nothing, and an exponent or nothing
abbrev pub split_tail : Bool → List ℕ → List ℕ → Option Split
split_tail negative whole t = option_and_then (λ f. option_map (λ e. record {
  negative = negative;
  whole = whole;
  fraction = f.0;
  below = e.0;
  exponent = e.1;
}) (exponent_at f.1)) (fraction_at t)

abbrev pub split_unsigned : Bool → List ℕ → Option Split
split_unsigned negative t = if is_whole (digits_front t) then split_tail negative (digits_front t) (digits_rest t) else None

-- a JSON number, split, or none where the text is no JSON number
abbrev pub split_of : List ℕ → Option Split
split_of t = split_unsigned (sign_at t).0 (sign_at t).1

-- whether the text is a JSON number, whatever its size
abbrev pub is_number_text : List ℕ → Bool
is_number_text t = is_some (split_of t)

-- the size of the number, as a whole number over a power of ten
abbrev pub size_of : Split → ℕ
size_of p = digits_number (p.whole ++ p.fraction) * 10 ^ (if p.below then 0 else digits_number p.exponent)

abbrev pub places_of : Split → ℕ
places_of p = length p.fraction + (if p.below then digits_number p.exponent else 0)

-- the number that a JSON number's text is, of any length, with as few places as it can have
abbrev pub text_decimal : List ℕ → Option Decimal
text_decimal t = option_map (λ p. decimal_of p.negative (size_of p) (places_of p)) (split_of t)

-- a number that is within the bounds
abbrev pub accepted : Decimal → Option Decimal
accepted d = if nat_lt (unsigned_abs d.c) size_limit && nat_le d.s most_places then Some d else None

-- the number within the bounds that a text is, or none
abbrev pub number_of : List ℕ → Option Decimal
number_of t = option_and_then accepted (text_decimal t)

-- the same of a sign and a size
abbrev pub within_bounds : Bool → ℕ × ℕ → Option Decimal
within_bounds negative p = if nat_lt p.0 size_limit && nat_le p.1 most_places then Some (record { c = signed negative p.0; s = p.1 }) else None
