-- How a resource file is read, in the profile of XML that outputs keep to: one block of elements, each with a name. Blanks,
-- newlines and comments between them give nothing. Nothing here knows of tokens or kinds.
use Rattle.std.specs.Prelude.{◌≡◌, ℕ, ◌==◌, ◌&&◌, ◌||◌, not, Bool, true, false, List, [], ◌∷◌, ◌++◌, codes, Option, Some, None, if◌then◌else◌}
use Rattle.std.specs.Char.{is_ascii_alphabetic, is_ascii_hexdigit}
use Rattle.std.specs.List.{list_all}
use Rattle.tk_io.specs.Characters.{blank, hyphen, newline, number_sign}
use Rattle.dec_fix.specs.Decimal.{Decimal}
use Rattle.dec_fix.specs.Following.{number_at}
use Rattle.transforms.specs.Hexadecimal.{hex_value}
use Rattle.transforms.specs.PlatformName.{is_identifier}
use Rattle.transforms.specs.Runs.{starts_number}
use Rattle.android_out.specs.Element.{Content, color, dimen, integer, item, string, Values, Tag, color_tag, dimen_tag, integer_tag, item_tag, string_tag, tag_of}

-- `#` and eight hexadecimal digits
abbrev pub eight_digits : List ℕ → Option Content
eight_digits (a ∷ b ∷ c ∷ d ∷ e ∷ f ∷ g ∷ h ∷ []) =
    if list_all is_ascii_hexdigit (a ∷ b ∷ c ∷ d ∷ e ∷ f ∷ g ∷ h ∷ [])
    then Some (color (hex_value (a ∷ b ∷ [])) (hex_value (c ∷ d ∷ [])) (hex_value (e ∷ f ∷ [])) (hex_value (g ∷ h ∷ [])))
    else None
eight_digits digits = None

abbrev pub hex_color_in : List ℕ → Option Content
hex_color_in [] = None
hex_color_in (c ∷ t) = if c == number_sign then eight_digits t else None

-- a number of any length and what follows it
abbrev pub numbered : (Decimal → List ℕ → Option Content) → List ℕ → Option Content
numbered f t = if starts_number t then f (number_at t).0 (number_at t).1 else None

-- letters
abbrev pub is_unit : List ℕ → Bool
is_unit [] = false
is_unit (c ∷ w) = list_all is_ascii_alphabetic (c ∷ w)

abbrev pub with_unit : Decimal → List ℕ → Option Content
with_unit d unit = if is_unit unit then Some (dimen d unit) else None

abbrev pub alone : Content → List ℕ → Option Content
alone content [] = Some content
alone content (c ∷ t) = None

abbrev pub whole_alone : Decimal → List ℕ → Option Content
whole_alone d t = if d.s == 0 then alone (integer d) t else None

-- what the content of an element of the tag says
abbrev pub content_in : Tag → List ℕ → Option Content
content_in color_tag t = hex_color_in t
content_in dimen_tag t = numbered with_unit t
content_in integer_tag t = numbered whole_alone t
content_in item_tag t = numbered (λ d. alone (item d)) t
content_in string_tag t = Some (string t)

-- what a tag begins and ends with, and a reference to a character
abbrev pub less_than : ℕ
less_than = 60

abbrev pub greater_than : ℕ
greater_than = 62

abbrev pub ampersand : ℕ
ampersand = 38

-- Neither the start of a tag nor of a reference: text that an XML reader takes as it stands.
abbrev pub no_markup : ℕ → Bool
no_markup c = not (c == less_than) && not (c == ampersand)

-- an element's start tag up to the value of its attribute `name`, and its end tag
abbrev pub before_name : Tag → List ℕ
before_name color_tag = codes "<color name=\""
before_name dimen_tag = codes "<dimen name=\""
before_name integer_tag = codes "<integer name=\""
before_name item_tag = codes "<item type=\"dimen\" format=\"float\" name=\""
before_name string_tag = codes "<string name=\""

abbrev pub end_tag : Tag → List ℕ
end_tag color_tag = codes "</color>"
end_tag dimen_tag = codes "</dimen>"
end_tag integer_tag = codes "</integer>"
end_tag item_tag = codes "</item>"
end_tag string_tag = codes "</string>"

-- The text is an element of this name which says this.
pub record IsElement (text name : List ℕ) (content : Content) : Type 0 where
  pub inside : List ℕ
  pub whole : text ≡ before_name (tag_of content) ++ (name ++ (codes "\">" ++ (inside ++ end_tag (tag_of content))))
  pub named : is_identifier name ≡ true
  pub plain : list_all no_markup inside ≡ true
  pub says : content_in (tag_of content) inside ≡ Some content

abbrev pub is_blank : ℕ → Bool
is_blank c = (c == blank) || (c == newline)

-- what follows the first `-->`
abbrev pub after_comment : List ℕ → Option (List ℕ)
after_comment [] = None
after_comment (c ∷ []) = None
after_comment (c ∷ d ∷ []) = None
after_comment (c ∷ d ∷ e ∷ t) =
    if (c == hyphen) && ((d == hyphen) && (e == greater_than)) then Some t else after_comment (d ∷ e ∷ t)

-- The elements of a text, read alone.
pub data Block : List ℕ → Values → Type 0 where
  ended : (t : List ℕ) → t ≡ [] → Block t []
  blank_byte : (t : List ℕ) (c : ℕ) (rest : List ℕ) (vs : Values) → t ≡ c ∷ rest → is_blank c ≡ true
      → Block rest vs → Block t vs
  comment : (t inside rest : List ℕ) (vs : Values) → t ≡ codes "<!--" ++ inside
      → after_comment inside ≡ Some rest → Block rest vs → Block t vs
  element : (t text name rest : List ℕ) (content : Content) (vs : Values) → t ≡ text ++ rest
      → IsElement text name content
      → Block rest vs → Block t ((name, content) ∷ vs)

abbrev pub head : List ℕ
head = codes "<?xml version=\"1.0\" encoding=\"utf-8\"?>\n<resources>\n"

abbrev pub foot : List ℕ
foot = codes "</resources>\n"

-- a whole file, and what it says
pub record Reads (bytes : List ℕ) (vs : Values) : Type 0 where
  pub inside : List ℕ
  pub frame : bytes ≡ head ++ (inside ++ foot)
  pub block : Block inside vs
