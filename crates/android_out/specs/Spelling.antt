-- The bytes of elements and fragments.
use Rattle.std.specs.Prelude.{ℕ, List, [], ◌∷◌, ◌++◌, codes, flat_map}
use Rattle.dec_fix.specs.Writing.{spelling}
use Rattle.transforms.specs.Config.{Settings}
use Rattle.transforms.specs.Hexadecimal.{hex_color}
use Rattle.transforms.specs.PlatformName.{name_on}
use Rattle.transforms.specs.declared.platform.Platform.TheVariants.{Android}
use Rattle.composite_rules.specs.declared.typed.Typed.{Typed}
use Rattle.android_out.specs.Element.{Content, color, dimen, integer, item, string, Values, value_names, tag_of, element_text}
use Rattle.android_out.specs.PlatformValue.{android_values}

abbrev pub content_text : Content → List ℕ
content_text (color alpha red green blue) = hex_color (alpha ∷ red ∷ green ∷ blue ∷ [])
content_text (dimen d unit) = spelling d ++ unit
content_text (integer d) = spelling d
content_text (item d) = spelling d
content_text (string text) = text

abbrev pub line_text : List ℕ × Content → List ℕ
line_text v = codes "  " ++ (element_text (tag_of v.1) v.0 (content_text v.1) ++ codes "\n")

abbrev pub omitted_text : List ℕ → List ℕ
omitted_text name = codes "  <!-- omitted " ++ (name ++ codes " -->\n")

-- the lines of a token of the name; a comment where it has none
abbrev pub body_text : List ℕ → Values → List ℕ
body_text name [] = omitted_text name
body_text name (v ∷ vs) = flat_map line_text (v ∷ vs)

-- the name of the token at the path
abbrev pub android_name : Settings → List (List ℕ) → List ℕ
android_name settings path = name_on Android settings.prefix path

-- what the token at the path is to have, its names, and its text
abbrev pub fragment_values : Settings → List (List ℕ) → Typed → Values
fragment_values settings path v = android_values settings (android_name settings path) v

abbrev pub fragment_names : Settings → List (List ℕ) → Typed → List (List ℕ)
fragment_names settings path v = value_names (fragment_values settings path v)

abbrev pub fragment_text : Settings → List (List ℕ) → Typed → List ℕ
fragment_text settings path v = body_text (android_name settings path) (fragment_values settings path v)
