-- What Android is to receive of a typed value, without bytes.
use Rattle.std.specs.Prelude.{ℕ, ◌==◌, ◌||◌, Bool, true, false, List, [], ◌∷◌, ◌++◌, codes, Option, Some, None, if◌then◌else◌, option_and_then, option_map, is_some}
use Rattle.std.specs.Char.{is_ascii_alphanumeric}
use Rattle.std.specs.List.{list_all, slice_split}
use Rattle.std.specs.Option.{option_or}
use Rattle.tk_io.specs.Characters.{blank, full_stop, hyphen, low_line}
use Rattle.dec_fix.specs.Decimal.{Decimal}
use Rattle.dec_fix.specs.Arithmetic.{times, whole_of, byte_of}
use Rattle.transforms.specs.Config.{Settings}
use Rattle.transforms.specs.FiveNames.{family_end, size_end, weight_end, spacing_end, height_end}
use Rattle.transforms.specs.Hexadecimal.{hex_value}
use Rattle.transforms.specs.Scaling.{scaled}
use Rattle.transforms.specs.declared.platform.Platform.TheVariants.{Android}
use Rattle.type_rules.specs.declared.color.Color.{Color}
use Rattle.type_rules.specs.declared.simple.Simple.{Simple}
use Rattle.type_rules.specs.declared.simple.Simple.TheVariants as simple
use Rattle.type_rules.specs.declared.size.Size.{Size}
use Rattle.type_rules.specs.declared.size.SizeUnit.{SizeUnit}
use Rattle.type_rules.specs.declared.size.SizeUnit.TheVariants.{Px, Rem}
use Rattle.type_rules.specs.declared.space.Space.{Space}
use Rattle.type_rules.specs.declared.space.Space.TheVariants.{Srgb, SrgbLinear, DisplayP3, A98Rgb, ProphotoRgb, Rec2020, XyzD65, XyzD50, Hsl, Hwb, Lab, Lch, Oklab, Oklch}
use Rattle.type_rules.specs.declared.time.Time.{Time}
use Rattle.type_rules.specs.declared.time.TimeUnit.{TimeUnit}
use Rattle.type_rules.specs.declared.time.TimeUnit.TheVariants.{Ms, S}
use Rattle.composite_rules.specs.declared.typed.Typed.{Typed}
use Rattle.composite_rules.specs.declared.typed.Typed.TheVariants as typed
use Rattle.composite_rules.specs.declared.typography.Typography.{Typography}
use Rattle.android_out.specs.Element.{Content, color, dimen, integer, item, string, Values}

-- a colour in sRGB with all its components
abbrev pub is_srgb : Space → Bool
is_srgb Srgb = true
is_srgb SrgbLinear = false
is_srgb DisplayP3 = false
is_srgb A98Rgb = false
is_srgb ProphotoRgb = false
is_srgb Rec2020 = false
is_srgb XyzD65 = false
is_srgb XyzD50 = false
is_srgb Hsl = false
is_srgb Hwb = false
is_srgb Lab = false
is_srgb Lch = false
is_srgb Oklab = false
is_srgb Oklch = false

abbrev pub component_color : Color → Option Content
component_color c =
    option_and_then (λ red. option_and_then (λ green. option_map
    (λ blue. color (byte_of c.alpha) (byte_of red) (byte_of green) (byte_of blue)) c.third) c.second) c.first

-- and any other by the six digits of its `hex`
abbrev pub digits_color : ℕ → List ℕ → Option Content
digits_color alpha (a ∷ b ∷ c ∷ d ∷ e ∷ f ∷ []) =
    Some (color alpha (hex_value (a ∷ b ∷ [])) (hex_value (c ∷ d ∷ [])) (hex_value (e ∷ f ∷ [])))
digits_color alpha digits = None

abbrev pub color_content : Color → Option Content
color_content c =
    option_or (if is_srgb c.space then component_color c else None) (option_and_then (digits_color (byte_of c.alpha)) c.hex)

abbrev pub is_rem : SizeUnit → Bool
is_rem Px = false
is_rem Rem = true

-- a length in pixels of any density, in this unit
abbrev pub size_content : Settings → List ℕ → Size → Content
size_content settings unit s = dimen (scaled s.value (is_rem s.unit) settings.rem_base) unit

-- a number that is whole and of 32 bits
abbrev pub whole_content : Decimal → Option Content
whole_content d = if is_some (whole_of d) then Some (integer d) else None

abbrev pub milliseconds_in : TimeUnit → Decimal → Decimal
milliseconds_in Ms d = d
milliseconds_in S d = times d 1000

abbrev pub time_content : Time → Option Content
time_content t = whole_content (milliseconds_in t.unit t.value)

-- one or more words of ASCII letters, digits, `-`, `_` and `.`, with single blanks between
abbrev pub is_plain_char : ℕ → Bool
is_plain_char c = is_ascii_alphanumeric c || ((c == hyphen) || ((c == low_line) || (c == full_stop)))

abbrev pub is_family_word : List ℕ → Bool
is_family_word [] = false
is_family_word (c ∷ w) = list_all is_plain_char (c ∷ w)

abbrev pub are_family_words : List ℕ → Bool
are_family_words text = list_all is_family_word (slice_split (λ c. c == blank) text)

-- the first family
abbrev pub family_content : List (List ℕ) → Option Content
family_content [] = None
family_content (family ∷ families) = if are_family_words family then Some (string family) else None

abbrev pub simple_content : Settings → Simple → Option Content
simple_content settings (simple.Color c) = color_content c
simple_content settings (simple.Dimension s) = Some (size_content settings (codes "dp") s)
simple_content settings (simple.FontFamily families) = family_content families
simple_content settings (simple.FontWeight w) = whole_content w
simple_content settings (simple.Duration t) = time_content t
simple_content settings (simple.CubicBezier c) = None
simple_content settings (simple.Number d) = Some (item d)

abbrev pub five_values : Settings → List ℕ → Typography → Content → Content → Values
five_values settings name t family weight =
    (name ++ family_end Android, family)
    ∷ (name ++ size_end Android, size_content settings (codes "sp") t.size)
    ∷ (name ++ weight_end Android, weight)
    ∷ (name ++ spacing_end Android, size_content settings (codes "dp") t.spacing)
    ∷ (name ++ height_end Android, item t.line_height) ∷ []

abbrev pub one_value : List ℕ → Option Content → Values
one_value name None = []
one_value name (Some content) = (name, content) ∷ []

-- none of five where the family or the weight can't be had
abbrev pub unless_omitted : Settings → List ℕ → Typography → Option Content → Option Content → Values
unless_omitted settings name t None weight = []
unless_omitted settings name t (Some family) None = []
unless_omitted settings name t (Some family) (Some weight) = five_values settings name t family weight

-- What a token of the name is to have: names and their values. Nothing where Android has no such resource.
abbrev pub android_values : Settings → List ℕ → Typed → Values
android_values settings name (typed.Simple s) = one_value name (simple_content settings s)
android_values settings name (typed.StrokeStyle s) = []
android_values settings name (typed.Border b) = []
android_values settings name (typed.Transition t) = []
android_values settings name (typed.Shadow items) = []
android_values settings name (typed.Gradient stops) = []
android_values settings name (typed.Typography t) =
    unless_omitted settings name t (family_content t.family) (whole_content t.weight)
