-- The types of values (Design Tokens Format Module 2025.10): what a value is under each simple kind, or the first rule that it breaks. The parts
-- are checked in the order of the lines. Where `legacy` is true, a text stands for a length, a time or a colour.
use Rattle.std.specs.Prelude.{ℕ, ◌==◌, ◌&&◌, Bool, List, [], ◌∷◌, map, length, codes, pos, Option, Some, None, Ok, if◌then◌else◌}
use Rattle.std.specs.Borrow.{Bor}
use Rattle.std.specs.Char.{is_ascii_hexdigit, to_ascii_lowercase}
use Rattle.std.specs.Fmt.{decimal}
use Rattle.std.specs.List.{list_all}
use Rattle.std.specs.Str.{bytes_eq}
use Rattle.tk_io.specs.Characters.{number_sign}
use Rattle.json_span.specs.Plain.{plain_string_in}
use Rattle.json_span.specs.PlainView.{Value, ValueEntry}
use Rattle.dec_fix.specs.Decimal.{Decimal}
use Rattle.dec_fix.specs.Arithmetic.{whole_decimal}
use Rattle.name_path.specs.declared.kind.Kind.{Kind}
use Rattle.name_path.specs.declared.kind.Kind.TheVariants as kind
use Rattle.type_rules.specs.declared.fault.ValueRule.{ValueRule}
use Rattle.type_rules.specs.declared.fault.ValueRule.TheVariants.{ValueShape, DimensionUnit, DurationUnit, BezierRange, WeightRange, WeightWord, ColorSpace, ColorRange, ColorAlpha, ColorHex}
use Rattle.type_rules.specs.declared.range.Range.{Range}
use Rattle.type_rules.specs.declared.range.Range.TheVariants.{Within}
use Rattle.type_rules.specs.declared.space.Ranges.{Ranges}
use Rattle.type_rules.specs.declared.space.Space.{Space}
use Rattle.type_rules.specs.declared.color.Color.{Color}
use Rattle.type_rules.specs.declared.components.Components.{Components}
use Rattle.type_rules.specs.declared.size.Size.{Size}
use Rattle.type_rules.specs.declared.time.Time.{Time}
use Rattle.type_rules.specs.declared.curve.Curve.{Curve}
use Rattle.type_rules.specs.declared.simple.Simple.{Simple}
use Rattle.type_rules.specs.declared.simple.Simple.TheVariants as simple
use Rattle.type_rules.specs.Checked.{Checked, broken, or_broken, under, ◌>>=◌}
use Rattle.type_rules.specs.Forms.{number_in, text_in, members_in, if_text, items_of_length, member, member_or, item, some_in}
use Rattle.type_rules.specs.Ranges.{ranged, ranges_of, share}
use Rattle.type_rules.specs.Legacy.{legacy_text_in, measure_of_text, color_of_text}
use Rattle.type_rules.specs.Words.{rows_of, word_in, meaning, size_units, time_units, weights, spaces}

-- an object of a number and a unit out of a table of units
unfoldable pub measure_in_object : {U : Type 0} → ValueRule → List (List ℕ × U) → Value → Checked (Decimal × U)
measure_in_object rule units v = do
  es ← members_in v
  value ← member number_in (codes "value") es
  unit ← member (word_in rule units) (codes "unit") es
  Ok (value, unit)

-- a number and a unit
unfoldable pub measure_in : {U : Type 0} → Bool → ValueRule → List (List ℕ × U) → Value → Checked (Decimal × U)
measure_in legacy rule units v = if_text (legacy_text_in legacy v) (measure_of_text units) (measure_in_object rule units v)

-- the same by a table of the code
abbrev pub measure_by_object : {U : Type 0} → ValueRule → List (Bor (List ℕ) × U) → Value → Checked (Decimal × U)
measure_by_object rule units v = measure_in_object rule (rows_of units) v

abbrev pub measure_by : {U : Type 0} → Bool → ValueRule → List (Bor (List ℕ) × U) → Value → Checked (Decimal × U)
measure_by legacy rule units v = measure_in legacy rule (rows_of units) v

-- a length
unfoldable pub size_in : Bool → Value → Checked Size
size_in legacy v = do
  m ← measure_in legacy DimensionUnit size_units v
  Ok (record { value = m.0; unit = m.1 })

unfoldable pub time_in : Bool → Value → Checked Time
time_in legacy v = do
  m ← measure_in legacy DurationUnit time_units v
  Ok (record { value = m.0; unit = m.1 })

-- four numbers; after their forms, the first and the third lie within 0 to 1
unfoldable pub four_numbers : Value → Checked Curve
four_numbers v = do
  vs ← items_of_length 4 v
  x1 ← item number_in 0 vs
  y1 ← item number_in 1 vs
  x2 ← item number_in 2 vs
  y2 ← item number_in 3 vs
  Ok (record { x1 = x1; y1 = y1; x2 = x2; y2 = y2 })

abbrev pub share_at : ℕ → Decimal → Checked Decimal
share_at i d = under (decimal i) (ranged BezierRange share d)

unfoldable pub ranged_curve : Curve → Checked Curve
ranged_curve c = do
  x1 ← share_at 0 c.x1
  x2 ← share_at 2 c.x2
  Ok (record { x1 = x1; y1 = c.y1; x2 = x2; y2 = c.y2 })

unfoldable pub curve_in : Value → Checked Curve
curve_in v = do
  c ← four_numbers v
  ranged_curve c

-- one text, or a list of one or more
unfoldable pub families_in : Value → Checked (List (List ℕ))
families_in v = if_text (plain_string_in v) (λ family. Ok (family ∷ [])) (some_in text_in v)

-- a word, which stands for its number, or a number from 1 to 1000
unfoldable pub weight_of_word : List ℕ → Checked Decimal
weight_of_word word = do
  n ← or_broken WeightWord (meaning weights word)
  Ok (whole_decimal (pos n))

unfoldable pub weight_of_number : Value → Checked Decimal
weight_of_number v = do
  number ← number_in v
  ranged WeightRange (Within 1 1000) number

unfoldable pub weight_in : Value → Checked Decimal
weight_in v = if_text (plain_string_in v) weight_of_word (weight_of_number v)

-- a component of a colour: a number, or none by the word `none`
abbrev pub component_of_word : List ℕ → Checked (Option Decimal)
component_of_word word = if bytes_eq word (codes "none") then Ok None else broken ValueShape

unfoldable pub component_of_number : Value → Checked (Option Decimal)
component_of_number v = do
  number ← number_in v
  Ok (Some number)

unfoldable pub component_in : Value → Checked (Option Decimal)
component_in v = if_text (plain_string_in v) component_of_word (component_of_number v)

unfoldable pub three_components : Value → Checked Components
three_components v = do
  vs ← items_of_length 3 v
  a ← item component_in 0 vs
  b ← item component_in 1 vs
  c ← item component_in 2 vs
  Ok (record { first = a; second = b; third = c })

-- a component that is none is in every range
unfoldable pub ranged_component : Range → Option Decimal → Checked (Option Decimal)
ranged_component range None = Ok None
ranged_component range (Some d) = do
  number ← ranged ColorRange range d
  Ok (Some number)

unfoldable pub ranged_components : Ranges → Components → Checked Components
ranged_components ranges cs = do
  a ← under (decimal 0) (ranged_component ranges.first cs.first)
  b ← under (decimal 1) (ranged_component ranges.second cs.second)
  c ← under (decimal 2) (ranged_component ranges.third cs.third)
  Ok (record { first = a; second = b; third = c })

-- three components; after their forms, each lies in its range
unfoldable pub components_in : Space → Value → Checked Components
components_in space v = do
  cs ← three_components v
  ranged_components (ranges_of space) cs

unfoldable pub alpha_in : Value → Checked Decimal
alpha_in v = do
  alpha ← number_in v
  ranged ColorAlpha share alpha

-- '#' and six hexadecimal digits, of which the digits are kept in lower case
abbrev pub hex_digits : List ℕ → Option (List ℕ)
hex_digits [] = None
hex_digits (mark ∷ digits) =
    if (mark == number_sign) && ((length digits == 6) && list_all is_ascii_hexdigit digits) then
    Some (map to_ascii_lowercase digits)
    else None

unfoldable pub hex_in : Value → Checked (Option (List ℕ))
hex_in v = do
  text ← text_in v
  digits ← or_broken ColorHex (hex_digits text)
  Ok (Some digits)

abbrev pub components_member : Space → List ValueEntry → Checked Components
components_member space es = member (components_in space) (codes "components") es

-- without an alpha a colour has the alpha 1
abbrev pub alpha_member : List ValueEntry → Checked Decimal
alpha_member es = member_or alpha_in (whole_decimal (pos 1)) (codes "alpha") es

abbrev pub hex_member : List ValueEntry → Checked (Option (List ℕ))
hex_member es = member_or hex_in None (codes "hex") es

-- an object that is a colour
unfoldable pub color_in_object : Value → Checked Color
color_in_object v = do
  es ← members_in v
  space ← member (word_in ColorSpace spaces) (codes "colorSpace") es
  cs ← components_member space es
  alpha ← alpha_member es
  hex ← hex_member es
  Ok (record { space = space; first = cs.first; second = cs.second; third = cs.third; alpha = alpha; hex = hex })

-- a colour
unfoldable pub color_in : Bool → Value → Checked Color
color_in legacy v = if_text (legacy_text_in legacy v) color_of_text (color_in_object v)

-- The value under a kind. A kind whose values are made of values of other kinds has none here.
unfoldable pub simple_value : Bool → Kind → Value → Checked Simple
simple_value legacy kind.Color v = do
  color ← color_in legacy v
  Ok (simple.Color color)
simple_value legacy kind.Dimension v = do
  size ← size_in legacy v
  Ok (simple.Dimension size)
simple_value legacy kind.FontFamily v = do
  families ← families_in v
  Ok (simple.FontFamily families)
simple_value legacy kind.FontWeight v = do
  weight ← weight_in v
  Ok (simple.FontWeight weight)
simple_value legacy kind.Duration v = do
  time ← time_in legacy v
  Ok (simple.Duration time)
simple_value legacy kind.CubicBezier v = do
  curve ← curve_in v
  Ok (simple.CubicBezier curve)
simple_value legacy kind.Number v = do
  number ← number_in v
  Ok (simple.Number number)
simple_value legacy kind.StrokeStyle v = broken ValueShape
simple_value legacy kind.Border v = broken ValueShape
simple_value legacy kind.Transition v = broken ValueShape
simple_value legacy kind.Shadow v = broken ValueShape
simple_value legacy kind.Gradient v = broken ValueShape
simple_value legacy kind.Typography v = broken ValueShape
