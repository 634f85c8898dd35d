-- What a scan of a text from a place answers: the end of what a rule reads there, or where its reading stops.
use Rattle.std.specs.Prelude.{ℕ, ◌≤◌, List, [], ◌∷◌, length, drop, Result, Ok, Err}
use Rattle.grammar.specs.Grammar.{Rule, empty, byte, seq}
use Rattle.grammar.specs.Predict.{Steers, Stuck}
use Rattle.json_span.specs.Grammar.{Name, one, either_byte, digit, hex, short, letter_d, not_d, high_digit, low_digit}
use Rattle.json_span.specs.Predictive.{rules, ahead}
use Rattle.json_span.specs.declared.bytes.Class.{Class}
use Rattle.json_span.specs.declared.bytes.Class.TheVariants.{One, Digit, FirstDigit, Sign, Exponent, Hex, NotD, D, BelowHigh, High, Low, Short}

-- from one place to another the text reads so
pub record ReadsTo (r : Rule Name) (text : List ℕ) (at end : ℕ) : Type 0 where
  pub forward : at ≤ end
  pub within_text : end ≤ length text
  pub steers : Steers rules ahead r (drop at text) (drop end text)

-- the reading from one place gets stuck at another
pub record Halts (r : Rule Name) (text : List ℕ) (at stop : ℕ) : Type 0 where
  pub within_text : stop ≤ length text
  pub stuck : Stuck rules ahead r (drop at text) (drop stop text)

abbrev pub Scans : Rule Name → List ℕ → ℕ → Result ℕ ℕ → Type 0
Scans r text at (Ok end) = ReadsTo r text at end
Scans r text at (Err stop) = Halts r text at stop

-- the rule of a class of bytes
abbrev pub rule_of : Class → Rule Name
rule_of (One c) = one c
rule_of Digit = digit
rule_of FirstDigit = byte 49 57
rule_of Sign = either_byte 43 45
rule_of Exponent = either_byte 69 101
rule_of Hex = hex
rule_of NotD = not_d
rule_of D = letter_d
rule_of BelowHigh = byte 48 55
rule_of High = high_digit
rule_of Low = low_digit
rule_of Short = short

abbrev mutual
  -- a byte of each class, one after another
  pub row_of : List Class → Rule Name
  row_of [] = empty
  row_of (k ∷ ks) = row_from (rule_of k) ks

  pub row_from : Rule Name → List Class → Rule Name
  row_from r [] = r
  row_from r (k ∷ ks) = seq r (row_from (rule_of k) ks)
