-- The types of values that are made of values of other kinds (Design Tokens Format Module 2025.10, composite types), and
-- with them the value under each kind, or the first rule that it breaks. The parts are checked in the order of the lines.
use Rattle.std.specs.Prelude.{ℕ, Bool, false, List, [], ◌∷◌, codes, pos, Option, Some, None, Ok, if◌then◌else◌}
use Rattle.std.specs.Ordering.{is_gt, is_lt}
use Rattle.json_span.specs.Plain.{plain_boolean_in, plain_string_in, plain_array_in}
use Rattle.json_span.specs.PlainView.{Value, ValueEntry}
use Rattle.dec_fix.specs.Decimal.{Decimal}
use Rattle.dec_fix.specs.Arithmetic.{order_with, whole_decimal}
use Rattle.name_path.specs.declared.kind.Kind.{Kind}
use Rattle.name_path.specs.declared.kind.Kind.TheVariants as kind
use Rattle.type_rules.specs.declared.fault.ValueRule.TheVariants.{ValueShape, StrokeWord, StrokeCap}
use Rattle.type_rules.specs.declared.size.Size.{Size}
use Rattle.type_rules.specs.Checked.{Checked, broken, or_broken, under, ◌>>=◌}
use Rattle.type_rules.specs.Forms.{number_in, members_in, if_text, named, member, member_or, list_in, some_in}
use Rattle.type_rules.specs.Words.{meaning, word_in}
use Rattle.type_rules.specs.Value.{color_in, size_in, time_in, curve_in, families_in, weight_in, simple_value}
use Rattle.composite_rules.specs.declared.stroke.Stroke.{Stroke}
use Rattle.composite_rules.specs.declared.stroke.Stroke.TheVariants as stroke
use Rattle.composite_rules.specs.declared.border.Border.{Border}
use Rattle.composite_rules.specs.declared.transition.Transition.{Transition}
use Rattle.composite_rules.specs.declared.shadow.ShadowItem.{ShadowItem}
use Rattle.composite_rules.specs.declared.gradient.ColorStop.{ColorStop}
use Rattle.composite_rules.specs.declared.typography.Typography.{Typography}
use Rattle.composite_rules.specs.declared.typed.Typed.{Typed}
use Rattle.composite_rules.specs.declared.typed.Typed.TheVariants as typed
use Rattle.composite_rules.specs.Words.{stroke_words, caps}

-- a stroke style: a word, or lengths of dashes and a line cap
unfoldable pub stroke_of_word : List ℕ → Checked Stroke
stroke_of_word text = do
  word ← or_broken StrokeWord (meaning stroke_words text)
  Ok (stroke.Word word)

abbrev pub lengths_member : Bool → List ValueEntry → Checked (List Size)
lengths_member legacy es = member (list_in (size_in legacy)) (codes "dashArray") es

unfoldable pub dashes_in : Bool → Value → Checked Stroke
dashes_in legacy v = do
  es ← members_in v
  lengths ← lengths_member legacy es
  cap ← member (word_in StrokeCap caps) (codes "lineCap") es
  Ok (stroke.Dashes lengths cap)

unfoldable pub stroke_in : Bool → Value → Checked Stroke
stroke_in legacy v = if_text (plain_string_in v) stroke_of_word (dashes_in legacy v)

unfoldable pub border_in : Bool → Value → Checked Border
border_in legacy v = do
  es ← members_in v
  color ← member (color_in legacy) (codes "color") es
  width ← member (size_in legacy) (codes "width") es
  style ← member (stroke_in legacy) (codes "style") es
  Ok (record { color = color; width = width; style = style })

unfoldable pub transition_in : Bool → Value → Checked Transition
transition_in legacy v = do
  es ← members_in v
  duration ← member (time_in legacy) (codes "duration") es
  delay ← member (time_in legacy) (codes "delay") es
  timing ← member curve_in (codes "timingFunction") es
  Ok (record { duration = duration; delay = delay; timing = timing })

-- true or false
unfoldable pub boolean_in : Value → Checked Bool
boolean_in v = or_broken ValueShape (plain_boolean_in v)

-- without an `inset` a shadow is none that falls inside
abbrev pub inset_member : List ValueEntry → Checked Bool
inset_member es = member_or boolean_in false (codes "inset") es

unfoldable pub shadow_item_in : Bool → Value → Checked ShadowItem
shadow_item_in legacy v = do
  es ← members_in v
  color ← member (color_in legacy) (codes "color") es
  offset_x ← member (size_in legacy) (codes "offsetX") es
  offset_y ← member (size_in legacy) (codes "offsetY") es
  blur ← member (size_in legacy) (codes "blur") es
  spread ← member (size_in legacy) (codes "spread") es
  inset ← inset_member es
  Ok (record { color = color; offset_x = offset_x; offset_y = offset_y; blur = blur; spread = spread; inset = inset })

-- a shadow that is one object has no member `0`, so that a step `0` leads to the first item of a list
abbrev pub unless_zero : {A : Type 0} → Option Value → Checked A → Checked A
unless_zero None checked = checked
unless_zero (Some v) checked = under (codes "0") (broken ValueShape)

unfoldable pub one_item : Bool → Value → Checked (List ShadowItem)
one_item legacy v = do
  item ← shadow_item_in legacy v
  Ok (item ∷ [])

unfoldable pub one_shadow : Bool → Value → Checked (List ShadowItem)
one_shadow legacy v = do
  es ← members_in v
  unless_zero (named (codes "0") es) (one_item legacy v)

abbrev pub if_list : {A : Type 0} → Option (List Value) → A → A → A
if_list None list other = other
if_list (Some vs) list other = list

-- one or more shadows
unfoldable pub shadows_in : Bool → Value → Checked (List ShadowItem)
shadows_in legacy v = if_list (plain_array_in v) (some_in (shadow_item_in legacy) v) (one_shadow legacy v)

-- the nearest number from 0 to 1
abbrev pub clamped : Decimal → Decimal
clamped d =
    if is_lt (order_with d 0) then whole_decimal (pos 0)
    else (if is_gt (order_with d 1) then whole_decimal (pos 1) else d)

unfoldable pub stop_in : Bool → Value → Checked ColorStop
stop_in legacy v = do
  es ← members_in v
  color ← member (color_in legacy) (codes "color") es
  position ← member number_in (codes "position") es
  Ok (record { color = color; position = clamped position })

unfoldable pub gradient_in : Bool → Value → Checked (List ColorStop)
gradient_in legacy v = some_in (stop_in legacy) v

unfoldable pub typography_in : Bool → Value → Checked Typography
typography_in legacy v = do
  es ← members_in v
  family ← member families_in (codes "fontFamily") es
  size ← member (size_in legacy) (codes "fontSize") es
  weight ← member weight_in (codes "fontWeight") es
  spacing ← member (size_in legacy) (codes "letterSpacing") es
  line_height ← member number_in (codes "lineHeight") es
  Ok (record { family = family; size = size; weight = weight; spacing = spacing; line_height = line_height })

unfoldable pub simple_in : Bool → Kind → Value → Checked Typed
simple_in legacy k v = do
  simple ← simple_value legacy k v
  Ok (typed.Simple simple)

-- the value under a kind
unfoldable pub value_of : Bool → Kind → Value → Checked Typed
value_of legacy kind.Color v = simple_in legacy kind.Color v
value_of legacy kind.Dimension v = simple_in legacy kind.Dimension v
value_of legacy kind.FontFamily v = simple_in legacy kind.FontFamily v
value_of legacy kind.FontWeight v = simple_in legacy kind.FontWeight v
value_of legacy kind.Duration v = simple_in legacy kind.Duration v
value_of legacy kind.CubicBezier v = simple_in legacy kind.CubicBezier v
value_of legacy kind.Number v = simple_in legacy kind.Number v
value_of legacy kind.StrokeStyle v = do
  style ← stroke_in legacy v
  Ok (typed.StrokeStyle style)
value_of legacy kind.Border v = do
  border ← border_in legacy v
  Ok (typed.Border border)
value_of legacy kind.Transition v = do
  transition ← transition_in legacy v
  Ok (typed.Transition transition)
value_of legacy kind.Shadow v = do
  items ← shadows_in legacy v
  Ok (typed.Shadow items)
value_of legacy kind.Gradient v = do
  stops ← gradient_in legacy v
  Ok (typed.Gradient stops)
value_of legacy kind.Typography v = do
  typography ← typography_in legacy v
  Ok (typed.Typography typography)
