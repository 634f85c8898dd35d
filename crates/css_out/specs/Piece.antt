-- What the values of CSS declarations are made of.
use Rattle.std.specs.Prelude.{ℕ, Bool, true, false, List, map}
use Rattle.dec_fix.specs.Decimal.{Decimal}

-- What stands for itself: a number, one with `%` or a unit, a string by its characters, a word, a function from its name and `(` to its `)`,
-- a comma and a slash.
pub data Mark : Type 0 where
  number : Decimal → Mark
  percent : Decimal → Mark
  unit : Decimal → List ℕ → Mark
  string : List ℕ → Mark
  word : List ℕ → Mark
  opens : List ℕ → Mark
  closes : Mark
  comma : Mark
  slash : Mark

-- a mark, or `var()` of a name, which stands for the value of that name
pub data Piece : Type 0 where
  mark : Mark → Piece
  var : List ℕ → Piece

abbrev pub opens_function : Mark → Bool
opens_function (number d) = false
opens_function (percent d) = false
opens_function (unit d w) = false
opens_function (string s) = false
opens_function (word w) = false
opens_function (opens w) = true
opens_function closes = false
opens_function comma = false
opens_function slash = false

abbrev pub closes_function : Mark → Bool
closes_function (number d) = false
closes_function (percent d) = false
closes_function (unit d w) = false
closes_function (string s) = false
closes_function (word w) = false
closes_function (opens w) = false
closes_function closes = true
closes_function comma = false
closes_function slash = false

abbrev pub is_comma : Mark → Bool
is_comma (number d) = false
is_comma (percent d) = false
is_comma (unit d w) = false
is_comma (string s) = false
is_comma (word w) = false
is_comma (opens w) = false
is_comma closes = false
is_comma comma = true
is_comma slash = false

abbrev pub is_opening : Piece → Bool
is_opening (mark m) = opens_function m
is_opening (var n) = false

abbrev pub is_closing : Piece → Bool
is_closing (mark m) = closes_function m
is_closing (var n) = false

-- names and their values
abbrev pub Values : Type 0
Values = List (List ℕ × List Mark)

abbrev pub value_names : Values → List (List ℕ)
value_names vs = map (λ v. v.0) vs
