-- The bytes of constants and fragments.
use Rattle.std.specs.Prelude.{ℕ, pos, List, [], ◌∷◌, ◌++◌, codes, flat_map}
use Rattle.dec_fix.specs.Arithmetic.{whole_decimal}
use Rattle.dec_fix.specs.Writing.{point_spelling}
use Rattle.transforms.specs.Config.{Settings}
use Rattle.transforms.specs.PlatformName.{name_on}
use Rattle.transforms.specs.Quoted.{escaped_character}
use Rattle.transforms.specs.declared.platform.Platform.TheVariants.{Swift}
use Rattle.composite_rules.specs.declared.typed.Typed.{Typed}
use Rattle.ios_out.specs.Constant.{Quantity, amount, over_255, Argument, labelled, bare, Content, number, string, made, Values, value_names}
use Rattle.ios_out.specs.PlatformValue.{swift_values}

abbrev pub quantity_text : Quantity → List ℕ
quantity_text (amount d) = point_spelling d
quantity_text (over_255 b) = point_spelling (whole_decimal (pos b)) ++ codes "/255.0"

abbrev pub argument_text : Argument → List ℕ
argument_text (labelled label q) = label ++ (codes ": " ++ quantity_text q)
argument_text (bare q) = quantity_text q

abbrev pub arguments_text : List Argument → List ℕ
arguments_text [] = []
arguments_text (a ∷ []) = argument_text a
arguments_text (a ∷ b ∷ args) = argument_text a ++ (codes ", " ++ arguments_text (b ∷ args))

-- what stands after a constant's name
abbrev pub content_text : Content → List ℕ
content_text (number type_name d) = codes ": " ++ (type_name ++ (codes " = " ++ point_spelling d))
content_text (string type_name text) =
    codes ": " ++ (type_name ++ (codes " = \"" ++ (flat_map escaped_character text ++ codes "\"")))
content_text (made maker arguments) = codes " = " ++ (maker ++ (codes "(" ++ (arguments_text arguments ++ codes ")")))

abbrev pub line_text : List ℕ × Content → List ℕ
line_text v = codes "  public static let " ++ (v.0 ++ (content_text v.1 ++ codes "\n"))

abbrev pub omitted_text : List ℕ → List ℕ
omitted_text name = codes "  // omitted " ++ (name ++ codes "\n")

-- the lines of a token of the name; a comment where it has none
abbrev pub body_text : List ℕ → Values → List ℕ
body_text name [] = omitted_text name
body_text name (v ∷ vs) = flat_map line_text (v ∷ vs)

-- the name of the token at the path
abbrev pub swift_name : Settings → List (List ℕ) → List ℕ
swift_name settings path = name_on Swift settings.prefix path

-- what the token at the path is to have, its names, and its text
abbrev pub fragment_values : Settings → List (List ℕ) → Typed → Values
fragment_values settings path v = swift_values settings (swift_name settings path) v

abbrev pub fragment_names : Settings → List (List ℕ) → Typed → List (List ℕ)
fragment_names settings path v = value_names (fragment_values settings path v)

abbrev pub fragment_text : Settings → List (List ℕ) → Typed → List ℕ
fragment_text settings path v = body_text (swift_name settings path) (fragment_values settings path v)
