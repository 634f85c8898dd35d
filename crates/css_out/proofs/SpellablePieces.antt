-- Pieces that are read as they are spelled.
use Rattle.std.specs.Prelude.{◌≡◌, ℕ, ◌&&◌, Bool, true, false, List, [], ◌∷◌, ⊤}
use Rattle.std.specs.Char.{is_ascii_alphabetic}
use Rattle.std.specs.List.{list_all, AllByRecursion}
use Rattle.dec_fix.specs.Decimal.{IsDec}
use Rattle.transforms.specs.PlatformName.{is_property}
use Rattle.css_out.specs.Piece.{Mark, Piece, mark, var, number, percent, unit, string, word, opens, closes, comma, slash}
use Rattle.css_out.specs.Reading.{in_word, is_var}

-- a letter with letters, digits and `-`
abbrev pub is_word : List ℕ → Bool
is_word [] = false
is_word (c ∷ w) = is_ascii_alphabetic c && list_all in_word w

-- one or more letters
abbrev pub is_unit : List ℕ → Bool
is_unit [] = false
is_unit (c ∷ w) = is_ascii_alphabetic c && list_all is_ascii_alphabetic w

abbrev pub IsSpellableMark : Mark → Type 0
IsSpellableMark (number d) = IsDec d
IsSpellableMark (percent d) = IsDec d
IsSpellableMark (unit d w) = IsDec d × (is_unit w ≡ true)
IsSpellableMark (string x) = ⊤
IsSpellableMark (word w) = is_word w ≡ true
IsSpellableMark (opens w) = (is_word w ≡ true) × (is_var w ≡ false)
IsSpellableMark closes = ⊤
IsSpellableMark comma = ⊤
IsSpellableMark slash = ⊤

abbrev pub IsSpellable : Piece → Type 0
IsSpellable (mark m) = IsSpellableMark m
IsSpellable (var n) = is_property n ≡ true

abbrev pub AreSpellable : List Piece → Type 0
AreSpellable ps = AllByRecursion IsSpellable ps
