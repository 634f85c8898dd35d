-- Texts between quotes: which can be printed, how they are spelled, and how they are read.
use Rattle.std.specs.Prelude.{◌≡◌, ℕ, ◌==◌, ◌||◌, not, ◌&&◌, nat_le, Bool, true, false, List, [], ◌∷◌, ◌++◌, flat_map, Option, Some, None, option_map, if◌then◌else◌}
use Rattle.std.specs.List.{list_all}
use Rattle.std.specs.Str.{chars}
use Rattle.tk_io.specs.Characters.{backslash, blank, quote}

-- a character from U+0020 on, and not U+007F, U+FFFE or U+FFFF
abbrev pub is_printable_char : ℕ → Bool
is_printable_char c = nat_le blank c && not ((c == 127) || ((c == 65534) || (c == 65535)))

abbrev pub is_printable : List ℕ → Bool
is_printable text = list_all is_printable_char (chars text)

-- a `\` before `"` and `\`
abbrev pub escaped_character : ℕ → List ℕ
escaped_character c = if (c == quote) || (c == backslash) then backslash ∷ c ∷ [] else c ∷ []

-- the text and a character, which stands before it
abbrev pub with_first : ℕ → Option (List ℕ × List ℕ) → Option (List ℕ × List ℕ)
with_first c found = option_map (λ r. (c ∷ r.0, r.1)) found

-- what stands before the next `"`, and after it; `\` gives the character after it, which may be `"`
abbrev pub string_from : Bool → List ℕ → Option (List ℕ × List ℕ)
string_from escaped [] = None
string_from true (c ∷ t) = with_first c (string_from false t)
string_from false (c ∷ t) =
    if c == quote then Some ([], t)
    else if c == backslash then string_from true t
    else with_first c (string_from false t)

-- what is spelled between quotes is read as it is
abbrev pub QuotedReadsBack : Type 0
QuotedReadsBack = (text behind : List ℕ)
    → string_from false (flat_map escaped_character text ++ quote ∷ behind) ≡ Some (text, behind)

-- what is read of a text is read whatever follows the text
abbrev pub QuotedReadsOn : Type 0
QuotedReadsOn = (escaped : Bool) (text more inside behind : List ℕ) → string_from escaped text ≡ Some (inside, behind)
    → string_from escaped (text ++ more) ≡ Some (inside, behind ++ more)
