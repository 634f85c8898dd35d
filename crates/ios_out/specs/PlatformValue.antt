-- What Swift is to receive of a typed value, without bytes.
use Rattle.std.specs.Prelude.{ℕ, Bool, true, false, List, [], ◌∷◌, ◌++◌, codes, Option, Some, None, if◌then◌else◌, option_and_then, option_map}
use Rattle.std.specs.Option.{option_or}
use Rattle.dec_fix.specs.Decimal.{Decimal}
use Rattle.dec_fix.specs.Arithmetic.{over_1000}
use Rattle.transforms.specs.Config.{Settings}
use Rattle.transforms.specs.FiveNames.{family_end, size_end, weight_end, spacing_end, height_end}
use Rattle.transforms.specs.Hexadecimal.{hex_value}
use Rattle.transforms.specs.Quoted.{is_printable}
use Rattle.transforms.specs.Scaling.{scaled}
use Rattle.transforms.specs.declared.platform.Platform.TheVariants.{Swift}
use Rattle.type_rules.specs.declared.color.Color.{Color}
use Rattle.type_rules.specs.declared.curve.Curve.{Curve}
use Rattle.type_rules.specs.declared.simple.Simple.{Simple}
use Rattle.type_rules.specs.declared.simple.Simple.TheVariants as simple
use Rattle.type_rules.specs.declared.size.Size.{Size}
use Rattle.type_rules.specs.declared.size.SizeUnit.{SizeUnit}
use Rattle.type_rules.specs.declared.size.SizeUnit.TheVariants.{Px, Rem}
use Rattle.type_rules.specs.declared.space.Space.{Space}
use Rattle.type_rules.specs.declared.space.Space.TheVariants.{Srgb, SrgbLinear, DisplayP3, A98Rgb, ProphotoRgb, Rec2020, XyzD65, XyzD50, Hsl, Hwb, Lab, Lch, Oklab, Oklch}
use Rattle.type_rules.specs.declared.time.Time.{Time}
use Rattle.type_rules.specs.declared.time.TimeUnit.{TimeUnit}
use Rattle.type_rules.specs.declared.time.TimeUnit.TheVariants.{Ms, S}
use Rattle.composite_rules.specs.declared.typed.Typed.{Typed}
use Rattle.composite_rules.specs.declared.typed.Typed.TheVariants as typed
use Rattle.composite_rules.specs.declared.typography.Typography.{Typography}
use Rattle.ios_out.specs.Constant.{Quantity, amount, over_255, labelled, bare, Content, number, string, made, Values}

-- the types and the constructors
abbrev pub length_type : List ℕ
length_type = codes "CGFloat"

abbrev pub time_type : List ℕ
time_type = codes "TimeInterval"

abbrev pub number_type : List ℕ
number_type = codes "Double"

abbrev pub text_type : List ℕ
text_type = codes "String"

abbrev pub color_maker : List ℕ
color_maker = codes "UIColor"

abbrev pub curve_maker : List ℕ
curve_maker = codes "CAMediaTimingFunction"

-- the label of red, by which `UIColor` knows the colour space: sRGB or Display P3
abbrev pub red_label : Space → Option (List ℕ)
red_label Srgb = Some (codes "red")
red_label SrgbLinear = None
red_label DisplayP3 = Some (codes "displayP3Red")
red_label A98Rgb = None
red_label ProphotoRgb = None
red_label Rec2020 = None
red_label XyzD65 = None
red_label XyzD50 = None
red_label Hsl = None
red_label Hwb = None
red_label Lab = None
red_label Lch = None
red_label Oklab = None
red_label Oklch = None

abbrev pub color_of : List ℕ → Quantity → Quantity → Quantity → Decimal → Content
color_of label red green blue alpha =
    made color_maker (labelled label red ∷ labelled (codes "green") green
    ∷ labelled (codes "blue") blue ∷ labelled (codes "alpha") (amount alpha) ∷ [])

-- a colour in one of these spaces with all its components
abbrev pub component_color : List ℕ → Color → Option Content
component_color label c =
    option_and_then (λ red. option_and_then (λ green. option_map
    (λ blue. color_of label (amount red) (amount green) (amount blue) c.alpha) c.third) c.second) c.first

-- and any other by the six digits of its `hex`
abbrev pub digits_color : Decimal → List ℕ → Option Content
digits_color alpha (a ∷ b ∷ c ∷ d ∷ e ∷ f ∷ []) =
    Some (color_of (codes "red") (over_255 (hex_value (a ∷ b ∷ [])))
    (over_255 (hex_value (c ∷ d ∷ []))) (over_255 (hex_value (e ∷ f ∷ []))) alpha)
digits_color alpha digits = None

abbrev pub color_content : Color → Option Content
color_content c =
    option_or (option_and_then (λ label. component_color label c) (red_label c.space)) (option_and_then (digits_color c.alpha) c.hex)

abbrev pub is_rem : SizeUnit → Bool
is_rem Px = false
is_rem Rem = true

-- a length in points
abbrev pub points : Settings → Size → Decimal
points settings s = scaled s.value (is_rem s.unit) settings.rem_base

abbrev pub size_content : Settings → Size → Content
size_content settings s = number length_type (points settings s)

abbrev pub seconds_in : TimeUnit → Decimal → Decimal
seconds_in Ms d = over_1000 d
seconds_in S d = d

abbrev pub time_content : Time → Content
time_content t = number time_type (seconds_in t.unit t.value)

abbrev pub curve_content : Curve → Content
curve_content c =
    made curve_maker (labelled (codes "controlPoints") (amount c.x1) ∷ bare (amount c.y1) ∷ bare (amount c.x2) ∷ bare (amount c.y2) ∷ [])

-- the first family
abbrev pub family_content : List (List ℕ) → Option Content
family_content [] = None
family_content (family ∷ families) = if is_printable family then Some (string text_type family) else None

abbrev pub simple_content : Settings → Simple → Option Content
simple_content settings (simple.Color c) = color_content c
simple_content settings (simple.Dimension s) = Some (size_content settings s)
simple_content settings (simple.FontFamily families) = family_content families
simple_content settings (simple.FontWeight w) = Some (number number_type w)
simple_content settings (simple.Duration t) = Some (time_content t)
simple_content settings (simple.CubicBezier c) = Some (curve_content c)
simple_content settings (simple.Number d) = Some (number number_type d)

abbrev pub five_values : Settings → List ℕ → Typography → Content → Values
five_values settings name t family =
    (name ++ family_end Swift, family)
    ∷ (name ++ size_end Swift, size_content settings t.size)
    ∷ (name ++ weight_end Swift, number number_type t.weight)
    ∷ (name ++ spacing_end Swift, size_content settings t.spacing)
    ∷ (name ++ height_end Swift, number number_type t.line_height) ∷ []

abbrev pub one_value : List ℕ → Option Content → Values
one_value name None = []
one_value name (Some content) = (name, content) ∷ []

-- none of five where the family can't be had
abbrev pub unless_omitted : Settings → List ℕ → Typography → Option Content → Values
unless_omitted settings name t None = []
unless_omitted settings name t (Some family) = five_values settings name t family

-- What a token of the name is to have: names and their values. Nothing where Swift has no such constant.
abbrev pub swift_values : Settings → List ℕ → Typed → Values
swift_values settings name (typed.Simple s) = one_value name (simple_content settings s)
swift_values settings name (typed.StrokeStyle s) = []
swift_values settings name (typed.Border b) = []
swift_values settings name (typed.Transition t) = []
swift_values settings name (typed.Shadow items) = []
swift_values settings name (typed.Gradient stops) = []
swift_values settings name (typed.Typography t) = unless_omitted settings name t (family_content t.family)
