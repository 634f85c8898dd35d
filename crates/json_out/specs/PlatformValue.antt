-- What JSON is to receive of a typed value: the JSON value of its kind, with all parts in the order of the kind's row (Format
-- Module 2025.10).
use Rattle.std.specs.Prelude.{ℕ, List, [], ◌∷◌, map, codes, Option, Some, None}
use Rattle.tk_io.specs.Characters.{number_sign}
use Rattle.dec_fix.specs.Decimal.{Decimal}
use Rattle.json_span.specs.Plain.{PlainValue, PlainEntry, plain_boolean, plain_number, plain_string, plain_array, plain_object, plains_of, plain_members_of}
use Rattle.type_rules.specs.Words.{size_unit_name, time_unit_name, space_name}
use Rattle.type_rules.specs.declared.color.Color.{Color}
use Rattle.type_rules.specs.declared.curve.Curve.{Curve}
use Rattle.type_rules.specs.declared.simple.Simple.{Simple}
use Rattle.type_rules.specs.declared.simple.Simple.TheVariants as simple
use Rattle.type_rules.specs.declared.size.Size.{Size}
use Rattle.type_rules.specs.declared.time.Time.{Time}
use Rattle.composite_rules.specs.Words.{stroke_word_name, cap_name}
use Rattle.composite_rules.specs.declared.border.Border.{Border}
use Rattle.composite_rules.specs.declared.gradient.ColorStop.{ColorStop}
use Rattle.composite_rules.specs.declared.shadow.ShadowItem.{ShadowItem}
use Rattle.composite_rules.specs.declared.stroke.Stroke.{Stroke}
use Rattle.composite_rules.specs.declared.stroke.Stroke.TheVariants as stroke
use Rattle.composite_rules.specs.declared.transition.Transition.{Transition}
use Rattle.composite_rules.specs.declared.typed.Typed.{Typed}
use Rattle.composite_rules.specs.declared.typed.Typed.TheVariants as typed
use Rattle.composite_rules.specs.declared.typography.Typography.{Typography}

-- a JSON value whose numbers are decimals
abbrev pub Json : Type 0
Json = PlainValue Decimal

-- a member of an object
abbrev pub Member : Type 0
Member = PlainEntry Decimal

abbrev pub member_json : List ℕ → Json → Member
member_json name value = record { name = name; value = value }

abbrev pub object_json : List Member → Json
object_json members = plain_object (plain_members_of members)

abbrev pub array_json : List Json → Json
array_json items = plain_array (plains_of items)

abbrev pub size_json : Size → Json
size_json s =
    object_json (member_json (codes "value") (plain_number s.value) ∷ member_json (codes "unit") (plain_string (size_unit_name s.unit)) ∷ [])

abbrev pub time_json : Time → Json
time_json t =
    object_json (member_json (codes "value") (plain_number t.value) ∷ member_json (codes "unit") (plain_string (time_unit_name t.unit)) ∷ [])

abbrev pub curve_json : Curve → Json
curve_json c = array_json (plain_number c.x1 ∷ plain_number c.y1 ∷ plain_number c.x2 ∷ plain_number c.y2 ∷ [])

abbrev pub component_json : Option Decimal → Json
component_json None = plain_string (codes "none")
component_json (Some d) = plain_number d

-- six digits after `#`, where they are given
abbrev pub hex_members : Option (List ℕ) → List Member
hex_members None = []
hex_members (Some digits) = member_json (codes "hex") (plain_string (number_sign ∷ digits)) ∷ []

abbrev pub color_json : Color → Json
color_json c = object_json (
    member_json (codes "colorSpace") (plain_string (space_name c.space))
    ∷ member_json (codes "components") (array_json (component_json c.first ∷ component_json c.second ∷ component_json c.third ∷ []))
    ∷ member_json (codes "alpha") (plain_number c.alpha)
    ∷ hex_members c.hex
    )

abbrev pub families_json : List (List ℕ) → Json
families_json families = array_json (map plain_string families)

abbrev pub stroke_json : Stroke → Json
stroke_json (stroke.Word w) = plain_string (stroke_word_name w)
stroke_json (stroke.Dashes lengths cap) = object_json (
    member_json (codes "dashArray") (array_json (map size_json lengths))
    ∷ member_json (codes "lineCap") (plain_string (cap_name cap))
    ∷ []
    )

abbrev pub border_json : Border → Json
border_json b = object_json (
    member_json (codes "color") (color_json b.color)
    ∷ member_json (codes "width") (size_json b.width)
    ∷ member_json (codes "style") (stroke_json b.style)
    ∷ []
    )

abbrev pub transition_json : Transition → Json
transition_json t = object_json (
    member_json (codes "duration") (time_json t.duration)
    ∷ member_json (codes "delay") (time_json t.delay)
    ∷ member_json (codes "timingFunction") (curve_json t.timing)
    ∷ []
    )

abbrev pub shadow_json : ShadowItem → Json
shadow_json item = object_json (
    member_json (codes "color") (color_json item.color)
    ∷ member_json (codes "offsetX") (size_json item.offset_x)
    ∷ member_json (codes "offsetY") (size_json item.offset_y)
    ∷ member_json (codes "blur") (size_json item.blur)
    ∷ member_json (codes "spread") (size_json item.spread)
    ∷ member_json (codes "inset") (plain_boolean item.inset)
    ∷ []
    )

abbrev pub stop_json : ColorStop → Json
stop_json stop =
    object_json (member_json (codes "color") (color_json stop.color) ∷ member_json (codes "position") (plain_number stop.position) ∷ [])

abbrev pub typography_json : Typography → Json
typography_json t = object_json (
    member_json (codes "fontFamily") (families_json t.family)
    ∷ member_json (codes "fontSize") (size_json t.size)
    ∷ member_json (codes "fontWeight") (plain_number t.weight)
    ∷ member_json (codes "letterSpacing") (size_json t.spacing)
    ∷ member_json (codes "lineHeight") (plain_number t.line_height)
    ∷ []
    )

abbrev pub simple_json : Simple → Json
simple_json (simple.Color c) = color_json c
simple_json (simple.Dimension s) = size_json s
simple_json (simple.FontFamily families) = families_json families
simple_json (simple.FontWeight w) = plain_number w
simple_json (simple.Duration t) = time_json t
simple_json (simple.CubicBezier c) = curve_json c
simple_json (simple.Number d) = plain_number d

abbrev pub typed_json : Typed → Json
typed_json (typed.Simple s) = simple_json s
typed_json (typed.StrokeStyle s) = stroke_json s
typed_json (typed.Border b) = border_json b
typed_json (typed.Transition t) = transition_json t
typed_json (typed.Shadow items) = array_json (map shadow_json items)
typed_json (typed.Gradient stops) = array_json (map stop_json stops)
typed_json (typed.Typography t) = typography_json t
