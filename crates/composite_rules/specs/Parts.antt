-- The parts of a value that are values of kinds of their own, and the steps that lead to them.
use Rattle.std.specs.Prelude.{◌≡◌, ℕ, List, [], ◌∷◌, map, codes, Option, Some, None, option_and_then, ⊤}
use Rattle.type_rules.specs.declared.color.Color.{Color}
use Rattle.type_rules.specs.declared.size.Size.{Size}
use Rattle.type_rules.specs.declared.time.Time.{Time}
use Rattle.type_rules.specs.declared.simple.Simple.TheVariants as simple
use Rattle.json_span.specs.Plain.{plain_array_in, plain_object_in}
use Rattle.json_span.specs.PlainView.{Value, ValueEntry}
use Rattle.type_rules.specs.Trails.{item_at}
use Rattle.type_rules.specs.Words.{meaning}
use Rattle.composite_rules.specs.declared.border.Border.{Border}
use Rattle.composite_rules.specs.declared.transition.Transition.{Transition}
use Rattle.composite_rules.specs.declared.shadow.ShadowItem.{ShadowItem}
use Rattle.composite_rules.specs.declared.gradient.ColorStop.{ColorStop}
use Rattle.composite_rules.specs.declared.typography.Typography.{Typography}
use Rattle.composite_rules.specs.declared.typed.Typed.{Typed}
use Rattle.composite_rules.specs.declared.typed.Typed.TheVariants as typed

-- parts by their names
abbrev pub Row : Type 0
Row = List (List ℕ × Typed)

abbrev pub color_part : Color → Typed
color_part c = typed.Simple (simple.Color c)

abbrev pub size_part : Size → Typed
size_part s = typed.Simple (simple.Dimension s)

abbrev pub time_part : Time → Typed
time_part t = typed.Simple (simple.Duration t)

abbrev pub border_row : Border → Row
border_row b = (codes "color", color_part b.color) ∷ (codes "width", size_part b.width) ∷ (codes "style", typed.StrokeStyle b.style) ∷ []

abbrev pub transition_row : Transition → Row
transition_row t = (codes "duration", time_part t.duration) ∷ (codes "delay", time_part t.delay) ∷ (codes "timingFunction", typed.Simple (simple.CubicBezier t.timing)) ∷ []

abbrev pub shadow_row : ShadowItem → Row
shadow_row item =
    (codes "color", color_part item.color)
    ∷ (codes "offsetX", size_part item.offset_x)
    ∷ (codes "offsetY", size_part item.offset_y)
    ∷ (codes "blur", size_part item.blur)
    ∷ (codes "spread", size_part item.spread) ∷ []

-- a position that was clamped is another number than what is written, and so is no part
abbrev pub stop_row : ColorStop → Row
stop_row stop = (codes "color", color_part stop.color) ∷ []

abbrev pub typography_row : Typography → Row
typography_row t =
    (codes "fontFamily", typed.Simple (simple.FontFamily t.family))
    ∷ (codes "fontSize", size_part t.size)
    ∷ (codes "fontWeight", typed.Simple (simple.FontWeight t.weight))
    ∷ (codes "letterSpacing", size_part t.spacing)
    ∷ (codes "lineHeight", typed.Simple (simple.Number t.line_height)) ∷ []

-- a shadow of one item may be written as one object
abbrev pub only_row : List ShadowItem → Row
only_row [] = []
only_row (item ∷ []) = shadow_row item
only_row (item ∷ next ∷ items) = []

-- the parts of a value that is written as an object
abbrev pub member_row : Typed → Row
member_row (typed.Simple s) = []
member_row (typed.StrokeStyle s) = []
member_row (typed.Border b) = border_row b
member_row (typed.Transition t) = transition_row t
member_row (typed.Shadow items) = only_row items
member_row (typed.Gradient stops) = []
member_row (typed.Typography t) = typography_row t

-- the parts of each item of a value that is written as a list
abbrev pub item_rows : Typed → List Row
item_rows (typed.Simple s) = []
item_rows (typed.StrokeStyle s) = []
item_rows (typed.Border b) = []
item_rows (typed.Transition t) = []
item_rows (typed.Shadow items) = map shadow_row items
item_rows (typed.Gradient stops) = map stop_row stops
item_rows (typed.Typography t) = []

-- The part to which the steps lead: the whole value, a member of it, or a member of an item.
abbrev pub part_at : Typed → List (List ℕ) → Option Typed
part_at t [] = Some t
part_at t (name ∷ []) = meaning (member_row t) name
part_at t (index ∷ name ∷ []) = option_and_then (λ row. meaning row name) (item_at index 0 (item_rows t))
part_at t (a ∷ b ∷ c ∷ steps) = None

-- A part of a whole value is written as a member where the value is an object, and as a member of an item where it is a
-- list.
abbrev pub HasForm : Value → List (List ℕ) → Type 0
HasForm v [] = ⊤
HasForm v (name ∷ []) = (es : List ValueEntry) × (plain_object_in v ≡ Some es)
HasForm v (index ∷ name ∷ []) = (vs : List Value) × (plain_array_in v ≡ Some vs)
HasForm v (a ∷ b ∷ c ∷ steps) = ⊥
