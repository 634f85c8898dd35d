-- The grammar for predictive reading (LL(1)): as `Grammar` has it, but with the blanks of a structural character after it alone, so that
-- the next byte tells which alternative of a rule goes on.
use Rattle.std.specs.Prelude.{ℕ, [], ◌∷◌}
use Rattle.grammar.specs.Grammar.{Rule, empty, seq, alt, many, named}
use Rattle.grammar.specs.Predict.{Ahead}
use Rattle.grammar.specs.Ranges.{Table, Ranges, ahead_of}
use Rattle.json_span.specs.Grammar.{Name, value, number, string, one, ws, false_word, null_word, true_word, number_rule, string_rule}

-- the two kinds of lists
pub data Bracket : Type 0 where
  square : Bracket
  curly : Bracket

abbrev pub open_of : Bracket → ℕ
open_of square = 91
open_of curly = 123

abbrev pub close_of : Bracket → ℕ
close_of square = 93
close_of curly = 125

abbrev pub symbol : ℕ → Rule Name
symbol c = seq (one c) ws

-- what stands before a value of the list: in an object a name and a colon
abbrev pub before_of : Bracket → Rule Name
before_of square = empty
before_of curly = seq (named string) (seq ws (symbol 58))

abbrev pub list_item_of : Bracket → Rule Name
list_item_of b = seq (before_of b) (seq (named value) ws)

-- after a value of the list
abbrev pub more_of : Bracket → Rule Name
more_of b = seq (many (seq (symbol 44) (list_item_of b))) (one (close_of b))

-- after the open bracket
abbrev pub inside_of : Bracket → Rule Name
inside_of b = alt (one (close_of b)) (seq (list_item_of b) (more_of b))

abbrev pub list_of : Bracket → Rule Name
list_of b = seq (symbol (open_of b)) (inside_of b)

abbrev pub rules : Name → Rule Name
rules value =
    alt false_word (alt null_word (alt true_word (alt (list_of curly) (alt (list_of square)
    (alt (named number) (named string))))))
rules number = number_rule
rules string = string_rule

abbrev pub json : Rule Name
json = seq ws (seq (named value) ws)

-- the bytes with which each named rule begins
abbrev pub firsts_of : Name → Ranges
firsts_of value =
    (102, 102) ∷ (110, 110) ∷ (116, 116) ∷ (123, 123) ∷ (91, 91) ∷ (45, 45) ∷ (48, 48) ∷ (49, 57) ∷ (34, 34) ∷ []
firsts_of number = (45, 45) ∷ (48, 48) ∷ (49, 57) ∷ []
firsts_of string = (34, 34) ∷ []

-- the bytes with which a text of it can go on
abbrev pub mores_of : Name → Ranges
mores_of value = (46, 46) ∷ (48, 57) ∷ (69, 69) ∷ (101, 101) ∷ []
mores_of number = (46, 46) ∷ (48, 57) ∷ (69, 69) ∷ (101, 101) ∷ []
mores_of string = []

abbrev pub table : Table Name
table = record { firsts = firsts_of; mores = mores_of }

abbrev pub ahead : Ahead Name
ahead = ahead_of table
