-- The characters of a string (RFC 8259, section 7), as the bytes of their UTF-8.
use Rattle.std.specs.Prelude.{◌≡◌, ℕ, ◌+◌, ◌-◌, ◌*◌, List, [], ◌∷◌, ◌++◌, Bool, true, false, cond, ◌&&◌, ◌||◌, ◌==◌, nat_lt, nat_le, Option, Some, None}
use Rattle.std.specs.Char.{digit_value, encode_utf8}
use Rattle.grammar.specs.Predict.{first}
use Rattle.tk_io.specs.Characters.{quote, backslash, solidus}
use Rattle.json_span.specs.Grammar.{hex, unescaped}
use Rattle.json_span.specs.Letters.{small_b, small_f, small_n, small_r, small_t, small_u}
use Rattle.json_span.specs.Predictive.{ahead}

-- what a short escape stands for
abbrev pub short_of : ℕ → Option ℕ
short_of x =
    cond ((x == quote) || (x == backslash) || (x == solidus)) (Some x)
    (cond (x == small_b) (Some 8) (cond (x == small_f) (Some 12) (cond (x == small_n) (Some 10)
    (cond (x == small_r) (Some 13) (cond (x == small_t) (Some 9) None)))))

-- the number of four hexadecimal digits
abbrev pub code_unit : ℕ → ℕ → ℕ → ℕ → ℕ
code_unit a b c d = digit_value a * 4096 + digit_value b * 256 + digit_value c * 16 + digit_value d

abbrev pub code_unit_of : ℕ → ℕ → ℕ → ℕ → Option ℕ
code_unit_of a b c d =
    cond (first ahead hex a && first ahead hex b && first ahead hex c && first ahead hex d) (Some (code_unit a b c d)) None

abbrev pub is_high : ℕ → Bool
is_high n = nat_le 0xd800 n && nat_lt n 0xdc00

abbrev pub is_low : ℕ → Bool
is_low n = nat_le 0xdc00 n && nat_lt n 0xe000

-- the character of a high and a low surrogate
abbrev pub joined_pair : ℕ → ℕ → ℕ
joined_pair high low = 0x10000 + (high - 0xd800) * 1024 + (low - 0xdc00)

-- The text begins with the rest of a string, up to its closing quote; then its characters, and what follows.
pub data CharactersAt : List ℕ → List ℕ → List ℕ → Type 0 where
  closing_quote : {c : ℕ} {u : List ℕ} → c ≡ quote → CharactersAt (c ∷ u) [] u
  unescaped_byte : {c : ℕ} {t s u : List ℕ} → first ahead unescaped c ≡ true → CharactersAt t s u →
      CharactersAt (c ∷ t) (c ∷ s) u
  short_escape : {b x c : ℕ} {t s u : List ℕ} → b ≡ backslash → short_of x ≡ Some c → CharactersAt t s u →
      CharactersAt (b ∷ x ∷ t) (c ∷ s) u
  unicode_escape : {e f a b c d n : ℕ} {t s u : List ℕ} → e ≡ backslash → f ≡ small_u →
      code_unit_of a b c d ≡ Some n → (is_high n || is_low n) ≡ false → CharactersAt t s u →
      CharactersAt (e ∷ f ∷ a ∷ b ∷ c ∷ d ∷ t) (encode_utf8 n ++ s) u
  surrogate_pair : {e f a b c d h g i j k l m low : ℕ} {t s u : List ℕ} → e ≡ backslash → f ≡ small_u →
      code_unit_of a b c d ≡ Some h → is_high h ≡ true → g ≡ backslash → i ≡ small_u →
      code_unit_of j k l m ≡ Some low → is_low low ≡ true → CharactersAt t s u →
      CharactersAt (e ∷ f ∷ a ∷ b ∷ c ∷ d ∷ g ∷ i ∷ j ∷ k ∷ l ∷ m ∷ t) (encode_utf8 (joined_pair h low) ++ s) u
