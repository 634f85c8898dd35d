-- What an escape stands for in the characters of a string.
use Rattle.std.specs.Prelude.{◌≡◌, ℕ, List, ◌++◌, drop, get_or}
use Rattle.std.specs.Char.{encode_utf8}
use Rattle.tk_io.specs.Characters.{backslash}
use Rattle.json_span.specs.Characters.{CharactersAt}

-- a string has a rest of its characters there
abbrev pub HasCharacters : List ℕ → Type 0
HasCharacters t = ∥ ((s : List ℕ) × (u : List ℕ) × CharactersAt t s u) ∥₁

-- the text is the rest of a string that begins with a backslash
abbrev pub BeginsEscape : List ℕ → Type 0
BeginsEscape t = ∥ ((s : List ℕ) × (u : List ℕ) × CharactersAt t s u × (get_or t 0 0 ≡ backslash)) ∥₁

-- the character comes first, and the rest of the string after so many bytes
abbrev pub StandsFor : List ℕ → ℕ → ℕ → Type 0
StandsFor t character len = (s u : List ℕ) → CharactersAt t s u →
    (rest : List ℕ) × CharactersAt (drop len t) rest u × (s ≡ encode_utf8 character ++ rest)
