-- Contents are read as they are spelled.
use Rattle.std.proofs.Common.{◌≡◌, ℕ, zero, suc, ◌/◌, ◌%◌, ◌<◌, ◌==◌, true, List, [], ◌∷◌, ◌++◌, refl, ◌∙◌, ap, subst, append-nil, Option, Some, arith}
use Rattle.std.specs.Char.{is_ascii_alphabetic, is_ascii_hexdigit, digit_char, digit_value, to_ascii_uppercase}
use Rattle.std.specs.List.{list_all}
use Rattle.dec_fix.specs.Decimal.{Decimal, IsDec}
use Rattle.dec_fix.specs.Following.{ends_number}
use Rattle.dec_fix.specs.Writing.{spelling}
use Rattle.dec_fix.proofs.Again.{both, number_again}
use Rattle.transforms.specs.Hexadecimal.{hex_byte, hex_color, hex_value}
use Rattle.transforms.specs.Runs.{PassesNumbers}
use Rattle.transforms.proofs.RunsAreFirst.{all-append, numbers_pass, numbers_start}
use Rattle.transforms.proofs.Spelled.{both as together}
use Rattle.android_out.specs.Element.{Content, color, dimen, integer, item, string, tag_of}
use Rattle.android_out.specs.Reading.{hex_color_in, numbered, is_unit, with_unit, alone, whole_alone, content_in, no_markup}
use Rattle.android_out.specs.Spelling.{content_text}

-- a digit in upper case
record IsDigit (n : ℕ) : Type 0 where
  value : digit_value (to_ascii_uppercase (digit_char n)) ≡ n
  hexadecimal : is_ascii_hexdigit (to_ascii_uppercase (digit_char n)) ≡ true
  plain : no_markup (to_ascii_uppercase (digit_char n)) ≡ true

digit : (n : ℕ) → n < 16 → IsDigit n
digit zero h = record { value = refl; hexadecimal = refl; plain = refl }
digit (suc zero) h = record { value = refl; hexadecimal = refl; plain = refl }
digit (suc (suc zero)) h = record { value = refl; hexadecimal = refl; plain = refl }
digit (suc (suc (suc zero))) h = record { value = refl; hexadecimal = refl; plain = refl }
digit (suc (suc (suc (suc zero)))) h = record { value = refl; hexadecimal = refl; plain = refl }
digit (suc (suc (suc (suc (suc zero))))) h = record { value = refl; hexadecimal = refl; plain = refl }
digit (suc (suc (suc (suc (suc (suc zero)))))) h = record { value = refl; hexadecimal = refl; plain = refl }
digit (suc (suc (suc (suc (suc (suc (suc zero))))))) h = record { value = refl; hexadecimal = refl; plain = refl }
digit (suc (suc (suc (suc (suc (suc (suc (suc zero)))))))) h = record { value = refl; hexadecimal = refl; plain = refl }
digit (suc (suc (suc (suc (suc (suc (suc (suc (suc zero))))))))) h = record { value = refl; hexadecimal = refl; plain = refl }
digit (suc (suc (suc (suc (suc (suc (suc (suc (suc (suc zero)))))))))) h = record { value = refl; hexadecimal = refl; plain = refl }
digit (suc (suc (suc (suc (suc (suc (suc (suc (suc (suc (suc zero))))))))))) h = record { value = refl; hexadecimal = refl; plain = refl }
digit (suc (suc (suc (suc (suc (suc (suc (suc (suc (suc (suc (suc zero)))))))))))) h = record { value = refl; hexadecimal = refl; plain = refl }
digit (suc (suc (suc (suc (suc (suc (suc (suc (suc (suc (suc (suc (suc zero))))))))))))) h = record { value = refl; hexadecimal = refl; plain = refl }
digit (suc (suc (suc (suc (suc (suc (suc (suc (suc (suc (suc (suc (suc (suc zero)))))))))))))) h = record { value = refl; hexadecimal = refl; plain = refl }
digit (suc (suc (suc (suc (suc (suc (suc (suc (suc (suc (suc (suc (suc (suc (suc zero))))))))))))))) h = record { value = refl; hexadecimal = refl; plain = refl }
digit (suc (suc (suc (suc (suc (suc (suc (suc (suc (suc (suc (suc (suc (suc (suc (suc n)))))))))))))))) h = absurd (omega arith)

-- both digits of a byte
two_digits : (b : ℕ) → b < 256 → IsDigit (b / 16) × IsDigit (b % 16)
two_digits b h = (digit (b / 16) (omega arith), digit (b % 16) (omega arith))

byte_value : (b : ℕ) → b < 256 → hex_value (hex_byte b) ≡ b
byte_value b h = let digits = two_digits b h in rw (digits.0.value, digits.1.value) (omega arith)

color_read : (a r g b : ℕ) → a < 256 → r < 256 → g < 256 → b < 256 → hex_color_in (hex_color (a ∷ r ∷ g ∷ b ∷ [])) ≡ Some (color a r g b)
color_read a r g b ha hr hg hb =
    let alpha = two_digits a ha in let red = two_digits r hr in
    let green = two_digits g hg in let blue = two_digits b hb in
    rw (alpha.0.hexadecimal, alpha.1.hexadecimal, red.0.hexadecimal, red.1.hexadecimal, green.0.hexadecimal, green.1.hexadecimal, blue.0.hexadecimal, blue.1.hexadecimal)
    (ap (λ x. Some (color x (hex_value (hex_byte r)) (hex_value (hex_byte g)) (hex_value (hex_byte b)))) (byte_value a ha)
    ∙ ap (λ x. Some (color a x (hex_value (hex_byte g)) (hex_value (hex_byte b)))) (byte_value r hr)
    ∙ ap (λ x. Some (color a r x (hex_value (hex_byte b)))) (byte_value g hg)
    ∙ ap (λ x. Some (color a r g x)) (byte_value b hb))

color_plain : (a r g b : ℕ) → a < 256 → r < 256 → g < 256 → b < 256 → list_all no_markup (hex_color (a ∷ r ∷ g ∷ b ∷ [])) ≡ true
color_plain a r g b ha hr hg hb =
    let alpha = two_digits a ha in let red = two_digits r hr in
    let green = two_digits g hg in let blue = two_digits b hb in
    rw (alpha.0.plain, alpha.1.plain, red.0.plain, red.1.plain, green.0.plain, green.1.plain, blue.0.plain, blue.1.plain) refl

-- numbers
number_read : (f : Decimal → List ℕ → Option Content) (d : Decimal) (t : List ℕ) → IsDec d → ends_number t ≡ true → numbered f (spelling d ++ t) ≡ f d t
number_read f d t h e = rw (numbers_start d t h) (ap (λ r. f r.0 r.1) (number_again d t h e))

alone_read : (f : Decimal → List ℕ → Option Content) (d : Decimal) → IsDec d → numbered f (spelling d) ≡ f d []
alone_read f d h = let P : List ℕ → Type 0 = λ t. numbered f t ≡ f d [] in subst P (append-nil (spelling d)) (number_read f d [] h refl)

unit_ends : (u : List ℕ) → is_unit u ≡ true → ends_number u ≡ true
unit_ends [] h = cc
unit_ends (c ∷ w) h = let l = both (is_ascii_alphabetic c) (list_all is_ascii_alphabetic w) h in grind (arith, l.0)

dimen_read : (d : Decimal) (u : List ℕ) → IsDec d → is_unit u ≡ true → numbered with_unit (spelling d ++ u) ≡ Some (dimen d u)
dimen_read d u h is = number_read with_unit d u h (unit_ends u is) ∙ rw is refl

no_markup_passes : PassesNumbers no_markup
no_markup_passes = record { digit = λ c h. grind arith; minus = refl; point = refl }

number_plain : (d : Decimal) → IsDec d → list_all no_markup (spelling d) ≡ true
number_plain d h = numbers_pass no_markup no_markup_passes d h

letters_plain : (w : List ℕ) → list_all is_ascii_alphabetic w ≡ true → list_all no_markup w ≡ true
letters_plain [] h = refl
letters_plain (c ∷ w) h =
    let l = both (is_ascii_alphabetic c) (list_all is_ascii_alphabetic w) h in let a : no_markup c ≡ true = grind (arith, l.0) in together (no_markup c) (list_all no_markup w) a (letters_plain w l.1)

unit_plain : (u : List ℕ) → is_unit u ≡ true → list_all no_markup u ≡ true
unit_plain [] h = cc
unit_plain (c ∷ w) h = letters_plain (c ∷ w) h

-- contents that can be spelled
pub data IsFine : Content → Type 0 where
  fine_color : (a r g b : ℕ) → a < 256 → r < 256 → g < 256 → b < 256 → IsFine (color a r g b)
  fine_dimen : (d : Decimal) (u : List ℕ) → IsDec d → is_unit u ≡ true → IsFine (dimen d u)
  fine_integer : (d : Decimal) → IsDec d → (d.s == 0) ≡ true → IsFine (integer d)
  fine_item : (d : Decimal) → IsDec d → IsFine (item d)
  fine_string : (t : List ℕ) → list_all no_markup t ≡ true → IsFine (string t)

pub fine_read : {c : Content} → IsFine c → content_in (tag_of c) (content_text c) ≡ Some c
fine_read (fine_color a r g b ha hr hg hb) = color_read a r g b ha hr hg hb
fine_read (fine_dimen d u h is) = dimen_read d u h is
fine_read (fine_integer d h whole) = alone_read whole_alone d h ∙ rw whole refl
fine_read (fine_item d h) = alone_read (λ e. alone (item e)) d h
fine_read (fine_string t h) = refl

pub fine_plain : {c : Content} → IsFine c → list_all no_markup (content_text c) ≡ true
fine_plain (fine_color a r g b ha hr hg hb) = color_plain a r g b ha hr hg hb
fine_plain (fine_dimen d u h is) = all-append no_markup (spelling d) u (number_plain d h) (unit_plain u is)
fine_plain (fine_integer d h whole) = number_plain d h
fine_plain (fine_item d h) = number_plain d h
fine_plain (fine_string t h) = h
