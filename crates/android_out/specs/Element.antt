-- What the elements of a resource file hold.
use Rattle.std.specs.Prelude.{ℕ, List, [], ◌++◌, codes, map}
use Rattle.dec_fix.specs.Decimal.{Decimal}

-- a colour by its bytes of alpha, red, green and blue; a length by its number and unit; a whole number; a number; a text
pub data Content : Type 0 where
  color : ℕ → ℕ → ℕ → ℕ → Content
  dimen : Decimal → List ℕ → Content
  integer : Decimal → Content
  item : Decimal → Content
  string : List ℕ → Content

-- names and what their elements hold
abbrev pub Values : Type 0
Values = List (List ℕ × Content)

abbrev pub value_names : Values → List (List ℕ)
value_names vs = map (λ v. v.0) vs

-- the five kinds of elements
pub data Tag : Type 0 where
  color_tag : Tag
  dimen_tag : Tag
  integer_tag : Tag
  item_tag : Tag
  string_tag : Tag

abbrev pub tag_of : Content → Tag
tag_of (color alpha red green blue) = color_tag
tag_of (dimen d unit) = dimen_tag
tag_of (integer d) = integer_tag
tag_of (item d) = item_tag
tag_of (string text) = string_tag

abbrev pub tag_name : Tag → List ℕ
tag_name color_tag = codes "color"
tag_name dimen_tag = codes "dimen"
tag_name integer_tag = codes "integer"
tag_name item_tag = codes "item"
tag_name string_tag = codes "string"

-- what stands before the name of an element: an item says what it is
abbrev pub attributes : Tag → List ℕ
attributes color_tag = []
attributes dimen_tag = []
attributes integer_tag = []
attributes item_tag = codes " type=\"dimen\" format=\"float\""
attributes string_tag = []

-- an element: its tag with the further attributes and the name, what is inside, and the tag's end
abbrev pub element_text : Tag → List ℕ → List ℕ → List ℕ
element_text tag name inside =
    codes "<" ++ (tag_name tag ++ (attributes tag
    ++ (codes " name=\"" ++ (name ++ (codes "\">" ++ (inside ++ (codes "</" ++ (tag_name tag ++ codes ">"))))))))
