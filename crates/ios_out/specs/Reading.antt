-- How a file of constants is read, in the profile of Swift that outputs keep to: one enum of constants, each with a name and on a
-- line of its own. Blanks, newlines and comments between them give nothing. Nothing here knows of tokens or kinds.
use Rattle.std.specs.Prelude.{◌≡◌, ℕ, ◌==◌, ◌&&◌, ◌||◌, not, nat_lt, Bool, true, false, List, [], ◌∷◌, ◌++◌, codes, Option, Some, None, if◌then◌else◌, unsigned_abs}
use Rattle.std.specs.Char.{is_ascii_alphabetic, is_ascii_alphanumeric}
use Rattle.std.specs.List.{list_all}
use Rattle.std.specs.Str.{bytes_eq}
use Rattle.dec_fix.specs.Decimal.{Decimal, is_negative}
use Rattle.dec_fix.specs.Following.{number_at}
use Rattle.transforms.specs.PlatformName.{is_identifier}
use Rattle.transforms.specs.Quoted.{string_from}
use Rattle.transforms.specs.Runs.{starts_number}
use Rattle.tk_io.specs.Characters.{newline, blank, right_bracket, comma_sign}
use Rattle.ios_out.specs.Constant.{Quantity, amount, over_255, Argument, labelled, bare, Content, number, string, made, Values}

-- a number of any length, to the end
abbrev pub alone : Decimal → List ℕ → Option Decimal
alone d [] = Some d
alone d (c ∷ t) = None

abbrev pub number_alone : List ℕ → Option Decimal
number_alone t = if starts_number t then alone (number_at t).0 (number_at t).1 else None

-- a byte over 255 is a whole number from 0 to 255 and `/255.0`
abbrev pub byte_in : Decimal → Option Quantity
byte_in d =
    if (d.s == 0) && (not (is_negative d.c) && nat_lt (unsigned_abs d.c) 256) then Some (over_255 (unsigned_abs d.c)) else None

abbrev pub quantity_of : Decimal → List ℕ → Option Quantity
quantity_of d [] = Some (amount d)
quantity_of d (c ∷ t) = if bytes_eq (c ∷ t) (codes "/255.0") then byte_in d else None

abbrev pub quantity_in : List ℕ → Option Quantity
quantity_in t = if starts_number t then quantity_of (number_at t).0 (number_at t).1 else None

-- a letter, and letters and digits
abbrev pub is_swift_word : List ℕ → Bool
is_swift_word [] = false
is_swift_word (c ∷ w) = is_ascii_alphabetic c && list_all is_ascii_alphanumeric w

abbrev pub no_comma : ℕ → Bool
no_comma c = not (c == comma_sign)

abbrev pub no_bracket : ℕ → Bool
no_bracket c = not (c == right_bracket)

abbrev pub no_newline : ℕ → Bool
no_newline c = not (c == newline)

-- the text is this argument
pub data IsArgument : List ℕ → Argument → Type 0 where
  with_label : (t label u : List ℕ) (q : Quantity) → t ≡ label ++ (codes ": " ++ u) → is_swift_word label ≡ true
      → quantity_in u ≡ Some q → IsArgument t (labelled label q)
  without : (t : List ℕ) (q : Quantity) → quantity_in t ≡ Some q → IsArgument t (bare q)

-- one argument or more, with a comma and a blank between
pub data AreArguments : List ℕ → List Argument → Type 0 where
  last : (t : List ℕ) (a : Argument) → list_all no_comma t ≡ true → IsArgument t a → AreArguments t (a ∷ [])
  more : (t first rest : List ℕ) (a : Argument) (args : List Argument) → t ≡ first ++ (codes ", " ++ rest)
      → list_all no_comma first ≡ true → IsArgument first a
      → AreArguments rest args → AreArguments t (a ∷ args)

-- The text, which stands after a constant's name, says this up to its line's end, and then goes on so.
pub data SaysContent : List ℕ → Content → List ℕ → Type 0 where
  of_number : (t type_name digits rest : List ℕ) (d : Decimal)
      → t ≡ codes ": " ++ (type_name ++ (codes " = " ++ (digits ++ (codes "\n" ++ rest))))
      → is_swift_word type_name ≡ true → list_all no_newline digits ≡ true → number_alone digits ≡ Some d
      → SaysContent t (number type_name d) rest
  of_string : (t type_name u text rest : List ℕ) → t ≡ codes ": " ++ (type_name ++ (codes " = \"" ++ u))
      → is_swift_word type_name ≡ true → string_from false u ≡ Some (text, codes "\n" ++ rest)
      → SaysContent t (string type_name text) rest
  of_arguments : (t maker inside rest : List ℕ) (args : List Argument)
      → t ≡ codes " = " ++ (maker ++ (codes "(" ++ (inside ++ (codes ")\n" ++ rest))))
      → is_swift_word maker ≡ true → list_all no_bracket inside ≡ true → AreArguments inside args
      → SaysContent t (made maker args) rest

abbrev pub is_blank : ℕ → Bool
is_blank c = (c == blank) || (c == newline)

-- The constants of a text, read alone.
pub data Block : List ℕ → Values → Type 0 where
  ended : (t : List ℕ) → t ≡ [] → Block t []
  blank_byte : (t : List ℕ) (c : ℕ) (rest : List ℕ) (vs : Values) → t ≡ c ∷ rest → is_blank c ≡ true
      → Block rest vs → Block t vs
  comment : (t inside rest : List ℕ) (vs : Values) → t ≡ codes "//" ++ (inside ++ (codes "\n" ++ rest))
      → list_all no_newline inside ≡ true → Block rest vs → Block t vs
  constant : (t name u rest : List ℕ) (content : Content) (vs : Values)
      → t ≡ codes "public static let " ++ (name ++ u) → is_identifier name ≡ true
      → SaysContent u content rest → Block rest vs → Block t ((name, content) ∷ vs)

abbrev pub head : List ℕ
head = codes "import UIKit\n\npublic enum Tokens {\n"

abbrev pub foot : List ℕ
foot = codes "}\n"

-- a whole file, and what it says
pub record Reads (bytes : List ℕ) (vs : Values) : Type 0 where
  pub inside : List ℕ
  pub frame : bytes ≡ head ++ (inside ++ foot)
  pub block : Block inside vs
