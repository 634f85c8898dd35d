-- What the constants of an enum hold.
use Rattle.std.specs.Prelude.{ℕ, List, map}
use Rattle.dec_fix.specs.Decimal.{Decimal}

-- a number, or a byte over 255
pub data Quantity : Type 0 where
  amount : Decimal → Quantity
  over_255 : ℕ → Quantity

-- with a label, or without
pub data Argument : Type 0 where
  labelled : List ℕ → Quantity → Argument
  bare : Quantity → Argument

-- a number of a type; a text of a type; what a constructor makes of its arguments
pub data Content : Type 0 where
  number : List ℕ → Decimal → Content
  string : List ℕ → List ℕ → Content
  made : List ℕ → List Argument → Content

-- names and what their constants hold
abbrev pub Values : Type 0
Values = List (List ℕ × Content)

abbrev pub value_names : Values → List (List ℕ)
value_names vs = map (λ v. v.0) vs
