-- Hexadecimal digits spell their number.
use Rattle.std.proofs.Common.{◌≡◌, ℕ, ◌/◌, ◌%◌, ◌^◌, ◌<◌, Bool, true, false, nat_lt, refl, arith}
use Rattle.std.specs.Prelude.{if◌then◌else◌}
use Rattle.std.specs.Char.{digit_char, digit_value}
use Rattle.std.proofs.lemmas.Bool.Decides.{nat_tests}
use Rattle.std.proofs.lemmas.Str.{digit_value-digit_char}
use Rattle.transforms.specs.Hexadecimal.{last_hex_digits, hex_value, NumbersReadBack}

digit : (n : ℕ) → digit_value (digit_char (n % 16)) ≡ n % 16
digit n = digit_value-digit_char (n % 16) (omega arith)

four : (n : ℕ) → n < 65536 → hex_value (last_hex_digits 4 n) ≡ n
four n h = rw (digit (n / 4096), digit (n / 256), digit (n / 16), digit (n / 1)) (omega arith)

five : (n : ℕ) → n < 1048576 → hex_value (last_hex_digits 5 n) ≡ n
five n h = rw (digit (n / 65536), digit (n / 4096), digit (n / 256), digit (n / 16), digit (n / 1)) (omega arith)

six : (n : ℕ) → n < 16777216 → hex_value (last_hex_digits 6 n) ≡ n
six n h = rw (digit (n / 1048576), digit (n / 65536), digit (n / 4096), digit (n / 256), digit (n / 16), digit (n / 1)) (omega arith)

below : (n m : ℕ) → nat_lt n m ≡ true → n < m
below n m e = grind (arith, nat_tests)

pub numbers_read_back : NumbersReadBack
numbers_read_back n h = at (nat_lt n (16 ^ 4)) refl (nat_lt n (16 ^ 5)) refl
  where
    at : (a : Bool) → nat_lt n (16 ^ 4) ≡ a → (b : Bool) → nat_lt n (16 ^ 5) ≡ b
        → hex_value (if a then last_hex_digits 4 n else if b then last_hex_digits 5 n else last_hex_digits 6 n) ≡ n
    at true small b fits = four n (below n (16 ^ 4) small)
    at false small true fits = five n (below n (16 ^ 5) fits)
    at false small false fits = six n h
