-- How permutations are named.
use Rattle.std.specs.Prelude.{◌≡◌, ℕ, ◌==◌, ◌||◌, ◌/◌, ◌%◌, Bool, List, [], ◌∷◌, ◌++◌, codes, map, if◌then◌else◌}
use Rattle.std.specs.Char.{digit_char, is_ascii_alphanumeric, to_ascii_uppercase}
use Rattle.std.specs.List.{flat_map, join_with_byte}
use Rattle.tk_io.specs.Characters.{percent_sign, plus_sign, hyphen, low_line}

-- an ASCII letter, a digit, '_' or '-'
abbrev pub is_unescaped : ℕ → Bool
is_unescaped c = is_ascii_alphanumeric c || ((c == low_line) || (c == hyphen))

-- a hexadecimal digit, in upper case
abbrev pub upper_digit : ℕ → ℕ
upper_digit d = to_ascii_uppercase (digit_char d)

-- any other byte is '%' and its two digits
abbrev pub escaped_byte : ℕ → List ℕ
escaped_byte c = if is_unescaped c then c ∷ [] else percent_sign ∷ upper_digit (c / 16) ∷ upper_digit (c % 16) ∷ []

abbrev pub escaped_name : List ℕ → List ℕ
escaped_name name = flat_map escaped_byte name

-- a modifier and the context that is chosen for it
pub record Choice : Type 0 where
  pub modifier : List ℕ
  pub context : List ℕ

-- MODIFIER=CONTEXT
abbrev pub label : Choice → List ℕ
label c = escaped_name c.modifier ++ codes "=" ++ escaped_name c.context

-- the labels joined by '+', and `default` where nothing is chosen
abbrev pub name_of : List Choice → List ℕ
name_of [] = codes "default"
name_of (c ∷ cs) = join_with_byte plus_sign (map label (c ∷ cs))

-- permutations that choose otherwise have other names
abbrev pub NamesTellChoices : Type 0
NamesTellChoices = (cs ds : List Choice) → name_of cs ≡ name_of ds → cs ≡ ds
