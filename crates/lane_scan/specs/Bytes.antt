-- The bytes that the scans look for, by the names that RFC 8259 gives them.
use Rattle.std.specs.Prelude.{ℕ, Bool, ◌==◌, ◌||◌, nat_lt}

abbrev pub horizontal_tab : ℕ
horizontal_tab = 9

abbrev pub line_feed : ℕ
line_feed = 10

abbrev pub carriage_return : ℕ
carriage_return = 13

abbrev pub space : ℕ
space = 32

abbrev pub quotation_mark : ℕ
quotation_mark = 34

abbrev pub reverse_solidus : ℕ
reverse_solidus = 92

-- a quotation mark, a reverse solidus or a control character, which all stand before the space: what ends the plain part of a JSON
-- string
abbrev pub is_special : ℕ → Bool
is_special x = x == quotation_mark || x == reverse_solidus || nat_lt x space

-- a blank of JSON: a space, a horizontal tab, a line feed or a carriage return
abbrev pub is_blank : ℕ → Bool
is_blank x = x == space || x == horizontal_tab || x == line_feed || x == carriage_return

-- a line feed, which ends a line
abbrev pub is_newline : ℕ → Bool
is_newline x = x == line_feed
