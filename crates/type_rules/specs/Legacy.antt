-- Lengths, times and colours that are written as texts: a JSON number that is directly followed by its unit, and `#` with
-- six or eight hexadecimal digits.
use Rattle.std.specs.Prelude.{Ok, ◌≡◌, ℕ, ◌+◌, ◌-◌, ◌*◌, ◌==◌, ◌&&◌, ◌||◌, ◌⊎◌, Bool, true, false, List, [], ◌∷◌, ◌++◌, map, length, take, drop, get_or, pos, Option, Some, None, if◌then◌else◌}
use Rattle.std.specs.Borrow.{Bor}
use Rattle.std.specs.Char.{digit_value, is_ascii_hexdigit, to_ascii_lowercase}
use Rattle.std.specs.List.{list_all}
use Rattle.std.specs.Str.{bytes_eq}
use Rattle.tk_io.specs.Characters.{number_sign}
use Rattle.json_span.specs.Plain.{plain_string_in}
use Rattle.json_span.specs.PlainView.{Value}
use Rattle.dec_fix.specs.Decimal.{Decimal}
use Rattle.dec_fix.specs.Arithmetic.{whole_decimal, byte_decimal}
use Rattle.dec_fix.specs.Reading.{is_number_text, number_of}
use Rattle.dec_fix.specs.Spelling.{Spells, IsNumberText}
use Rattle.name_path.specs.declared.kind.Kind.{Kind}
use Rattle.name_path.specs.declared.kind.Kind.TheVariants as kind
use Rattle.type_rules.specs.declared.fault.ValueRule.TheVariants.{NumberWide, LegacyText}
use Rattle.type_rules.specs.declared.space.Space.TheVariants.{Srgb}
use Rattle.type_rules.specs.declared.color.Color.{Color}
use Rattle.type_rules.specs.declared.size.SizeUnit.{SizeUnit}
use Rattle.type_rules.specs.declared.time.TimeUnit.{TimeUnit}
use Rattle.type_rules.specs.declared.simple.Simple.{Simple}
use Rattle.type_rules.specs.declared.simple.Simple.TheVariants as simple
use Rattle.type_rules.specs.Checked.{Checked, or_broken, ◌>>=◌}
use Rattle.type_rules.specs.Words.{rows_of, size_unit_name, time_unit_name}

-- The text is a JSON number, whatever its size, that is directly followed by the unit.
pub record HasUnit (unit text : List ℕ) : Type 0 where
  pub front : List ℕ
  pub is_number : IsNumberText front
  pub spelled : text ≡ front ++ unit

-- The text spells the number, and the unit follows directly.
pub record SpellsMeasure (unit text : List ℕ) (number : Decimal) : Type 0 where
  pub front : List ℕ
  pub spells : Spells front number
  pub spelled : text ≡ front ++ unit

-- The number of the two hexadecimal digits from the i-th on.
abbrev pub byte_at : ℕ → List ℕ → ℕ
byte_at i digits = digit_value (get_or digits i 0) * 16 + digit_value (get_or digits (i + 1) 0)

-- The fourth byte of a colour is its alpha; without it the alpha is 1.
abbrev pub alpha_of : List ℕ → Decimal
alpha_of digits = if length digits == 8 then byte_decimal (byte_at 6 digits) else whole_decimal (pos 1)

-- The first three bytes are red, green and blue, as parts of 255.
abbrev pub color_of : List ℕ → Color
color_of digits = record {
  space = Srgb;
  first = Some (byte_decimal (byte_at 0 digits));
  second = Some (byte_decimal (byte_at 2 digits));
  third = Some (byte_decimal (byte_at 4 digits));
  alpha = alpha_of digits;
  hex = Some (map to_ascii_lowercase (take 6 digits));
}

-- The text is `#` and these digits, which are six or eight.
pub record HasDigits (text digits : List ℕ) : Type 0 where
  pub spelled : text ≡ number_sign ∷ digits
  pub count : (length digits ≡ 6) ⊎ (length digits ≡ 8)
  pub hexadecimal : list_all is_ascii_hexdigit digits ≡ true

-- The text spells the colour of its digits.
pub record SpellsColor (text : List ℕ) (color : Color) : Type 0 where
  pub digits : List ℕ
  pub form : HasDigits text digits
  pub is : color ≡ color_of digits

-- A legacy text, and the value that it spells.
abbrev pub IsLegacyText : List ℕ → Simple → Type 0
IsLegacyText text (simple.Color color) = SpellsColor text color
IsLegacyText text (simple.Dimension size) = SpellsMeasure (size_unit_name size.unit) text size.value
IsLegacyText text (simple.Duration time) = SpellsMeasure (time_unit_name time.unit) text time.value
IsLegacyText text (simple.FontFamily families) = ⊥
IsLegacyText text (simple.FontWeight weight) = ⊥
IsLegacyText text (simple.CubicBezier curve) = ⊥
IsLegacyText text (simple.Number number) = ⊥

-- The text has the form of a legacy text of the kind, whatever the size of its number.
abbrev pub HasLegacyForm : Kind → List ℕ → Type 0
HasLegacyForm kind.Color text = (digits : List ℕ) × HasDigits text digits
HasLegacyForm kind.Dimension text = (unit : SizeUnit) × HasUnit (size_unit_name unit) text
HasLegacyForm kind.Duration text = (unit : TimeUnit) × HasUnit (time_unit_name unit) text
HasLegacyForm kind.FontFamily text = ⊥
HasLegacyForm kind.FontWeight text = ⊥
HasLegacyForm kind.CubicBezier text = ⊥
HasLegacyForm kind.Number text = ⊥
HasLegacyForm kind.StrokeStyle text = ⊥
HasLegacyForm kind.Border text = ⊥
HasLegacyForm kind.Transition text = ⊥
HasLegacyForm kind.Shadow text = ⊥
HasLegacyForm kind.Gradient text = ⊥
HasLegacyForm kind.Typography text = ⊥

-- the kinds whose values may be texts
abbrev pub may_be_text : Kind → Bool
may_be_text kind.Color = true
may_be_text kind.Dimension = true
may_be_text kind.Duration = true
may_be_text kind.FontFamily = false
may_be_text kind.FontWeight = false
may_be_text kind.CubicBezier = false
may_be_text kind.Number = false
may_be_text kind.StrokeStyle = false
may_be_text kind.Border = false
may_be_text kind.Transition = false
may_be_text kind.Shadow = false
may_be_text kind.Gradient = false
may_be_text kind.Typography = false

-- ---- what is read of a text

-- the text that a value is, where texts may stand for lengths, times and colours
abbrev pub legacy_text_in : Bool → Value → Option (List ℕ)
legacy_text_in legacy v = if legacy then plain_string_in v else None

abbrev pub ends_in : List ℕ → List ℕ → Bool
ends_in unit text = bytes_eq (drop (length text - length unit) text) unit

abbrev pub before_end : List ℕ → List ℕ → List ℕ
before_end unit text = take (length text - length unit) text

-- the number before the unit
abbrev pub number_before : List ℕ → List ℕ → Option (List ℕ)
number_before unit text =
    if ends_in unit text && is_number_text (before_end unit text) then Some (before_end unit text) else None

-- the number and the unit of the table that directly follows it
abbrev pub or_later : {U : Type 0} → U → Option (List ℕ) → Option (List ℕ × U) → Option (List ℕ × U)
or_later unit None later = later
or_later unit (Some number) later = Some (number, unit)

abbrev pub split_measure : {U : Type 0} → List (List ℕ × U) → List ℕ → Option (List ℕ × U)
split_measure [] text = None
split_measure (row ∷ rows) text = or_later row.1 (number_before row.0 text) (split_measure rows text)

-- a number and a unit, where the number is within the bounds of those that are read
unfoldable pub measure_of_text : {U : Type 0} → List (List ℕ × U) → List ℕ → Checked (Decimal × U)
measure_of_text units text = do
  m ← or_broken LegacyText (split_measure units text)
  value ← or_broken NumberWide (number_of m.0)
  Ok (value, m.1)

-- the same by a table of the code
abbrev pub measure_by_text : {U : Type 0} → List (Bor (List ℕ) × U) → List ℕ → Checked (Decimal × U)
measure_by_text units text = measure_of_text (rows_of units) text

-- `#` and six or eight hexadecimal digits
abbrev pub legacy_color : List ℕ → Option Color
legacy_color [] = None
legacy_color (mark ∷ digits) =
    if (mark == number_sign) && (((length digits == 6) || (length digits == 8)) && list_all is_ascii_hexdigit digits)
    then Some (color_of digits)
    else None

unfoldable pub color_of_text : List ℕ → Checked Color
color_of_text text = or_broken LegacyText (legacy_color text)
