-- What CSS is to receive of a typed value, without references and without bytes (CSS Color 4, CSS Easing 1 and the shorthands of
-- borders, transitions, shadows and gradients).
use Rattle.std.specs.Prelude.{ℕ, Bool, true, false, List, [], ◌∷◌, ◌++◌, codes, Option, Some, None, if◌then◌else◌, flat_map}
use Rattle.std.specs.List.{list_all, list_any}
use Rattle.std.specs.Ordering.{is_eq}
use Rattle.std.specs.Str.{bytes_eq}
use Rattle.dec_fix.specs.Decimal.{Decimal}
use Rattle.dec_fix.specs.Arithmetic.{order_with, times}
use Rattle.transforms.specs.FiveNames.{family_end, size_end, weight_end, spacing_end, height_end}
use Rattle.transforms.specs.Quoted.{is_printable}
use Rattle.transforms.specs.declared.platform.Platform.TheVariants.{Css}
use Rattle.type_rules.specs.Words.{size_unit_name, time_unit_name, space_name}
use Rattle.type_rules.specs.declared.color.Color.{Color}
use Rattle.type_rules.specs.declared.curve.Curve.{Curve}
use Rattle.type_rules.specs.declared.simple.Simple.{Simple}
use Rattle.type_rules.specs.declared.simple.Simple.TheVariants as simple
use Rattle.type_rules.specs.declared.size.Size.{Size}
use Rattle.type_rules.specs.declared.space.Space.{Space}
use Rattle.type_rules.specs.declared.space.Space.TheVariants.{Srgb, SrgbLinear, DisplayP3, A98Rgb, ProphotoRgb, Rec2020, XyzD65, XyzD50, Hsl, Hwb, Lab, Lch, Oklab, Oklch}
use Rattle.type_rules.specs.declared.time.Time.{Time}
use Rattle.composite_rules.specs.Words.{stroke_word_name}
use Rattle.composite_rules.specs.declared.border.Border.{Border}
use Rattle.composite_rules.specs.declared.gradient.ColorStop.{ColorStop}
use Rattle.composite_rules.specs.declared.shadow.ShadowItem.{ShadowItem}
use Rattle.composite_rules.specs.declared.stroke.Stroke.{Stroke}
use Rattle.composite_rules.specs.declared.stroke.Stroke.TheVariants as stroke
use Rattle.composite_rules.specs.declared.transition.Transition.{Transition}
use Rattle.composite_rules.specs.declared.typed.Typed.{Typed}
use Rattle.composite_rules.specs.declared.typed.Typed.TheVariants as typed
use Rattle.composite_rules.specs.declared.typography.Typography.{Typography}
use Rattle.css_out.specs.Piece.{Mark, number, percent, unit, string, word, opens, closes, comma, slash, Values}

abbrev pub size_marks : Size → List Mark
size_marks s = unit s.value (size_unit_name s.unit) ∷ []

abbrev pub time_marks : Time → List Mark
time_marks t = unit t.value (time_unit_name t.unit) ∷ []

abbrev pub number_marks : Decimal → List Mark
number_marks d = number d ∷ []

abbrev pub curve_marks : Curve → List Mark
curve_marks c = opens (codes "cubic-bezier")
    ∷ number c.x1 ∷ comma ∷ number c.y1 ∷ comma ∷ number c.x2 ∷ comma ∷ number c.y2 ∷ closes ∷ []

-- a colour is a function of the name of its space, or `color` with that name as its first word
abbrev pub has_function : Space → Bool
has_function Srgb = false
has_function SrgbLinear = false
has_function DisplayP3 = false
has_function A98Rgb = false
has_function ProphotoRgb = false
has_function Rec2020 = false
has_function XyzD65 = false
has_function XyzD50 = false
has_function Hsl = true
has_function Hwb = true
has_function Lab = true
has_function Lch = true
has_function Oklab = true
has_function Oklch = true

abbrev pub function_name : Space → List ℕ
function_name space = if has_function space then space_name space else codes "color"

abbrev pub space_marks : Space → List Mark
space_marks space = if has_function space then [] else word (space_name space) ∷ []

-- the second and third components of hsl and hwb are percentages
abbrev pub has_percents : Space → Bool
has_percents Srgb = false
has_percents SrgbLinear = false
has_percents DisplayP3 = false
has_percents A98Rgb = false
has_percents ProphotoRgb = false
has_percents Rec2020 = false
has_percents XyzD65 = false
has_percents XyzD50 = false
has_percents Hsl = true
has_percents Hwb = true
has_percents Lab = false
has_percents Lch = false
has_percents Oklab = false
has_percents Oklch = false

abbrev pub component_mark : Bool → Option Decimal → Mark
component_mark as_percent None = word (codes "none")
component_mark as_percent (Some d) = if as_percent then percent d else number d

-- an alpha of 1 is left out
abbrev pub alpha_marks : Decimal → List Mark
alpha_marks alpha = if is_eq (order_with alpha 1) then [] else slash ∷ number alpha ∷ []

abbrev pub component_marks : Color → List Mark
component_marks c = component_mark false c.first
    ∷ component_mark (has_percents c.space) c.second ∷ component_mark (has_percents c.space) c.third ∷ []

abbrev pub color_marks : Color → List Mark
color_marks c = opens (function_name c.space)
    ∷ (space_marks c.space ++ (component_marks c ++ (alpha_marks c.alpha ++ closes ∷ [])))

-- lists of marks with commas between
abbrev pub listed : {A : Type 0} → (A → List Mark) → List A → List Mark
listed f [] = []
listed f (x ∷ xs) = f x ++ flat_map (λ y. comma ∷ f y) xs

-- the families that CSS has words for
abbrev pub generic_families : List (List ℕ)
generic_families =
    codes "serif" ∷ codes "sans-serif" ∷ codes "monospace" ∷ codes "cursive" ∷ codes "fantasy" ∷ codes "system-ui" ∷ []

abbrev pub is_generic : List ℕ → Bool
is_generic family = list_any (λ generic. bytes_eq family generic) generic_families

abbrev pub family_marks : List ℕ → List Mark
family_marks family = if is_generic family then word family ∷ [] else string family ∷ []

abbrev pub families_marks : List (List ℕ) → List Mark
families_marks families = listed family_marks families

abbrev pub simple_marks : Simple → List Mark
simple_marks (simple.Color c) = color_marks c
simple_marks (simple.Dimension s) = size_marks s
simple_marks (simple.FontFamily families) = families_marks families
simple_marks (simple.FontWeight w) = number_marks w
simple_marks (simple.Duration t) = time_marks t
simple_marks (simple.CubicBezier c) = curve_marks c
simple_marks (simple.Number d) = number_marks d

-- a stroke of dashes has no mark
abbrev pub stroke_marks : Stroke → List Mark
stroke_marks (stroke.Word w) = word (stroke_word_name w) ∷ []
stroke_marks (stroke.Dashes lengths cap) = []

abbrev pub border_marks : Border → List Mark
border_marks b = size_marks b.width ++ (stroke_marks b.style ++ color_marks b.color)

abbrev pub transition_marks : Transition → List Mark
transition_marks t = time_marks t.duration ++ (curve_marks t.timing ++ time_marks t.delay)

abbrev pub inset_marks : Bool → List Mark
inset_marks inset = if inset then word (codes "inset") ∷ [] else []

abbrev pub shadow_marks : ShadowItem → List Mark
shadow_marks i = inset_marks i.inset
    ++ (size_marks i.offset_x ++ (size_marks i.offset_y ++ (size_marks i.blur ++ (size_marks i.spread ++ color_marks i.color))))

-- the position in percent
abbrev pub position_mark : Decimal → Mark
position_mark d = percent (times d 100)

abbrev pub stop_marks : ColorStop → List Mark
stop_marks s = color_marks s.color ++ position_mark s.position ∷ []

abbrev pub typography_values : List ℕ → Typography → Values
typography_values name t =
    (name ++ family_end Css, families_marks t.family)
    ∷ (name ++ size_end Css, size_marks t.size)
    ∷ (name ++ weight_end Css, number_marks t.weight)
    ∷ (name ++ spacing_end Css, size_marks t.spacing)
    ∷ (name ++ height_end Css, number_marks t.line_height) ∷ []

abbrev pub are_printable : List (List ℕ) → Bool
are_printable families = list_all is_printable families

abbrev pub has_word : Stroke → Bool
has_word (stroke.Word w) = true
has_word (stroke.Dashes lengths cap) = false

abbrev pub can_spell_simple : Simple → Bool
can_spell_simple (simple.Color c) = true
can_spell_simple (simple.Dimension s) = true
can_spell_simple (simple.FontFamily families) = are_printable families
can_spell_simple (simple.FontWeight w) = true
can_spell_simple (simple.Duration t) = true
can_spell_simple (simple.CubicBezier c) = true
can_spell_simple (simple.Number d) = true

abbrev pub can_spell : Typed → Bool
can_spell (typed.Simple s) = can_spell_simple s
can_spell (typed.StrokeStyle s) = has_word s
can_spell (typed.Border b) = has_word b.style
can_spell (typed.Transition t) = true
can_spell (typed.Shadow items) = true
can_spell (typed.Gradient stops) = true
can_spell (typed.Typography t) = are_printable t.family

abbrev pub all_values : List ℕ → Typed → Values
all_values name (typed.Simple s) = (name, simple_marks s) ∷ []
all_values name (typed.StrokeStyle s) = (name, stroke_marks s) ∷ []
all_values name (typed.Border b) = (name, border_marks b) ∷ []
all_values name (typed.Transition t) = (name, transition_marks t) ∷ []
all_values name (typed.Shadow items) = (name, listed shadow_marks items) ∷ []
all_values name (typed.Gradient stops) = (name, listed stop_marks stops) ∷ []
all_values name (typed.Typography t) = typography_values name t

-- What a token of the name is to have: names and their values. Nothing where CSS can't spell the value: families that hold a
-- character that is not printable, and dashes.
abbrev pub css_values : List ℕ → Typed → Values
css_values name v = if can_spell v then all_values name v else []
