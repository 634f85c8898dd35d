-- Numbers in hexadecimal digits.
use Rattle.std.specs.Prelude.{◌≡◌, zero, suc, ℕ, ◌+◌, ◌*◌, ◌/◌, ◌%◌, ◌^◌, ◌<◌, fold, List, [], ◌∷◌, ◌++◌, codes, nat_lt, if◌then◌else◌}
use Rattle.std.specs.List.{flat_map}
use Rattle.std.specs.Char.{digit_char, digit_value, to_ascii_uppercase}

-- the last k digits of n, in lower case
abbrev pub last_hex_digits : ℕ → ℕ → List ℕ
last_hex_digits zero n = []
last_hex_digits (suc k) n = digit_char (n / 16 ^ k % 16) ∷ last_hex_digits k n

-- the number of a character, with four digits or as many more as it has
abbrev pub hex_number : ℕ → List ℕ
hex_number n =
    if nat_lt n (16 ^ 4) then last_hex_digits 4 n
    else if nat_lt n (16 ^ 5) then last_hex_digits 5 n
    else last_hex_digits 6 n

-- two digits of a byte, in upper case
abbrev pub hex_byte : ℕ → List ℕ
hex_byte b = to_ascii_uppercase (digit_char (b / 16)) ∷ to_ascii_uppercase (digit_char (b % 16)) ∷ []

-- `#` and two digits for each byte
abbrev pub hex_color : List ℕ → List ℕ
hex_color bytes = codes "#" ++ flat_map hex_byte bytes

-- the number that hexadecimal digits spell
abbrev pub hex_value : List ℕ → ℕ
hex_value digits = fold (λ value digit. 16 * value + digit_value digit) 0 digits

-- the digits of a number spell it
abbrev pub NumbersReadBack : Type 0
NumbersReadBack = (n : ℕ) → n < 16 ^ 6 → hex_value (hex_number n) ≡ n
