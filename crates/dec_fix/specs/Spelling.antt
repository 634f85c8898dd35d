-- JSON numbers as RFC 8259 section 6 spells them, and which number each is.
use Rattle.std.specs.Prelude.{◌≡◌, ℕ, ◌+◌, ◌-◌, ◌*◌, ◌^◌, ◌<◌, ◌⊎◌, Bool, List, [], ◌∷◌, ◌++◌, length, slice_index, IsTrue, ⊤, if◌then◌else◌}
use Rattle.std.specs.Str.{all_ascii_digits}
use Rattle.tk_io.specs.Characters.{plus_sign, hyphen, full_stop, digit_zero, capital_e, small_e}
use Rattle.dec_fix.specs.Decimal.{Decimal, IsSameNumber, signed}

pub data Sign : Type 0 where
  unsigned : Sign
  plus : Sign
  minus : Sign

-- none, or a letter, a sign and digits
pub data Exponent : Type 0 where
  none : Exponent
  power : ℕ → Sign → List ℕ → Exponent

-- the parts of a spelling; a fraction without digits is one that is not there
pub record NumberParts : Type 0 where
  pub negative : Bool
  pub whole : List ℕ
  pub fraction : List ℕ
  pub exponent : Exponent

-- the text of these parts
abbrev pub minus_text : Bool → List ℕ
minus_text negative = if negative then hyphen ∷ [] else []

abbrev pub fraction_text : List ℕ → List ℕ
fraction_text [] = []
fraction_text (d ∷ ds) = full_stop ∷ (d ∷ ds)

abbrev pub sign_text : Sign → List ℕ
sign_text unsigned = []
sign_text plus = plus_sign ∷ []
sign_text minus = hyphen ∷ []

abbrev pub exponent_text : Exponent → List ℕ
exponent_text none = []
exponent_text (power letter sign ds) = letter ∷ (sign_text sign ++ ds)

abbrev pub text_of : NumberParts → List ℕ
text_of p = minus_text p.negative ++ (p.whole ++ (fraction_text p.fraction ++ exponent_text p.exponent))

-- one digit or more
pub record IsDigits (ds : List ℕ) : Type 0 where
  pub digits : IsTrue (all_ascii_digits ds)
  pub some : 0 < length ds

-- digits, where a leading zero stands alone
pub record IsInt (ds : List ℕ) : Type 0 where
  pub digits : IsDigits ds
  pub zero_alone : slice_index ds 0 ≡ digit_zero → length ds ≡ 1

abbrev pub IsExponent : Exponent → Type 0
IsExponent none = ⊤
IsExponent (power letter sign ds) = ((letter ≡ small_e) ⊎ (letter ≡ capital_e)) × IsDigits ds

-- the parts are those of a JSON number
pub record IsNumber (p : NumberParts) : Type 0 where
  pub whole : IsInt p.whole
  pub fraction : IsTrue (all_ascii_digits p.fraction)
  pub exponent : IsExponent p.exponent

-- the text is a JSON number, whatever its size
pub record IsNumberText (text : List ℕ) : Type 0 where
  pub parts : NumberParts
  pub is_number : IsNumber parts
  pub spelled : text ≡ text_of parts

-- the whole number that digits write after those of n
abbrev pub digits_number_after : ℕ → List ℕ → ℕ
digits_number_after n [] = n
digits_number_after n (c ∷ t) = digits_number_after (n * 10 + (c - digit_zero)) t

-- the whole number that digits write
abbrev pub digits_number : List ℕ → ℕ
digits_number ds = digits_number_after 0 ds

-- the powers of ten by which an exponent multiplies and divides
abbrev pub power_up : Exponent → ℕ
power_up none = 0
power_up (power letter unsigned ds) = digits_number ds
power_up (power letter plus ds) = digits_number ds
power_up (power letter minus ds) = 0

abbrev pub power_down : Exponent → ℕ
power_down none = 0
power_down (power letter unsigned ds) = 0
power_down (power letter plus ds) = 0
power_down (power letter minus ds) = digits_number ds

-- the number that the parts are, of any length
abbrev pub number_of_parts : NumberParts → Decimal
number_of_parts p = record {
  c = signed p.negative (digits_number (p.whole ++ p.fraction) * 10 ^ power_up p.exponent);
  s = length p.fraction + power_down p.exponent;
}

-- the text is a JSON number, and this is the number
pub record Spells (text : List ℕ) (d : Decimal) : Type 0 where
  pub parts : NumberParts
  pub is_number : IsNumber parts
  pub spelled : text ≡ text_of parts
  pub same : IsSameNumber d (number_of_parts parts)
