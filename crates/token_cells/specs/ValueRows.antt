-- Which part of a value is told, where several are broken: the first in the order of its kind's row (Format Module 2025.10, in
-- this project's profile). The rows stand here, where a token is told what its value breaks.
use Rattle.std.specs.Prelude.{◌≡◌, ◌↔◌, ℕ, Bool, true, false, List, [], ◌∷◌, ◌++◌, length, codes, Option, Some, None, Ok, Err, option_map}
use Rattle.std.specs.Fmt.{decimal}
use Rattle.dec_fix.specs.Decimal.{Decimal}
use Rattle.json_span.specs.Plain.{plain_array_in, plain_object_in}
use Rattle.json_span.specs.PlainView.{Value, ValueEntry}
use Rattle.ring.specs.Lists.{Each}
use Rattle.type_rules.specs.declared.fault.ValueRule.TheVariants.{ValueShape, DimensionUnit, DurationUnit, BezierRange, ColorSpace, StrokeCap}
use Rattle.type_rules.specs.declared.range.Range.{Range}
use Rattle.type_rules.specs.declared.space.Space.{Space}
use Rattle.type_rules.specs.Checked.{Break, Checked, outside, broken, ◌>>=◌}
use Rattle.type_rules.specs.Forms.{named, number_in, text_in, member, list_in}
use Rattle.type_rules.specs.Ranges.{ranged, ranges_of, share}
use Rattle.type_rules.specs.Words.{word_in, size_units, time_units, spaces}
use Rattle.type_rules.specs.Value.{component_in, ranged_component, components_in, alpha_in, hex_in, color_in, size_in, time_in, curve_in, families_in, weight_in}
use Rattle.composite_rules.specs.Words.{caps}
use Rattle.composite_rules.specs.Value.{stroke_in, border_in, transition_in, boolean_in, shadow_item_in, shadows_in, stop_in, gradient_in, typography_in}

-- what a check of a value says is broken
abbrev pub Breaks : Type 0
Breaks = Value → Option Break

abbrev pub broken_by : {A : Type 0} → Checked A → Option Break
broken_by (Ok x) = None
broken_by (Err b) = Some b

-- A part of a row: the member's name, whether it may be missing, and what its value breaks.
pub record RowPart : Type 0 where
  pub name : List ℕ
  pub may_lack : Bool
  pub breaks : Breaks

abbrev pub part : {A : Type 0} → List ℕ → (Value → Checked A) → RowPart
part name check = record { name = name; may_lack = false; breaks = λ v. broken_by (check v) }

abbrev pub optional_part : {A : Type 0} → List ℕ → (Value → Checked A) → RowPart
optional_part name check = record { name = name; may_lack = true; breaks = λ v. broken_by (check v) }

-- the rows of dimensions and durations, and of stroke styles that are no word
abbrev pub size_parts : List RowPart
size_parts = part (codes "value") number_in ∷ part (codes "unit") (word_in DimensionUnit size_units) ∷ []

abbrev pub time_parts : List RowPart
time_parts = part (codes "value") number_in ∷ part (codes "unit") (word_in DurationUnit time_units) ∷ []

abbrev pub stroke_parts : Bool → List RowPart
stroke_parts legacy = part (codes "dashArray") (list_in (size_in legacy)) ∷ part (codes "lineCap") (word_in StrokeCap caps) ∷ []

-- what follows the space of a colour, by which its components are judged
abbrev pub color_parts : Space → List RowPart
color_parts space = part (codes "components") (components_in space) ∷ optional_part (codes "alpha") alpha_in ∷ optional_part (codes "hex") hex_in ∷ []

-- the rows of kinds with parts of other kinds
abbrev pub border_parts : Bool → List RowPart
border_parts legacy = part (codes "color") (color_in legacy) ∷ part (codes "width") (size_in legacy) ∷ part (codes "style") (stroke_in legacy) ∷ []

abbrev pub transition_parts : Bool → List RowPart
transition_parts legacy =
    part (codes "duration") (time_in legacy) ∷ part (codes "delay") (time_in legacy) ∷ part (codes "timingFunction") curve_in ∷ []

abbrev pub shadow_parts : Bool → List RowPart
shadow_parts legacy =
    part (codes "color") (color_in legacy) ∷ part (codes "offsetX") (size_in legacy) ∷ part (codes "offsetY") (size_in legacy)
    ∷ part (codes "blur") (size_in legacy) ∷ part (codes "spread") (size_in legacy) ∷ optional_part (codes "inset") boolean_in ∷ []

abbrev pub stop_parts : Bool → List RowPart
stop_parts legacy = part (codes "color") (color_in legacy) ∷ part (codes "position") number_in ∷ []

abbrev pub typography_parts : Bool → List RowPart
typography_parts legacy =
    part (codes "fontFamily") families_in ∷ part (codes "fontSize") (size_in legacy) ∷ part (codes "fontWeight") weight_in
    ∷ part (codes "letterSpacing") (size_in legacy) ∷ part (codes "lineHeight") number_in ∷ []

-- what is broken at a part among these members: where it is missing, its object; else what its value breaks, seen from there
abbrev pub lacks_or : Bool → List ℕ → Breaks → Option Value → Option Break
lacks_or true name breaks None = None
lacks_or false name breaks None = Some (record { rule = ValueShape; trail = [] })
lacks_or may_lack name breaks (Some v) = option_map (outside name) (breaks v)

abbrev pub part_break : List ValueEntry → RowPart → Option Break
part_break es p = lacks_or p.may_lack p.name p.breaks (named p.name es)

-- The break is that of a part of the row, and no part before it is broken.
pub record IsFirstOfRow (row : List RowPart) (es : List ValueEntry) (b : Break) : Type 0 where
  pub before : List RowPart
  pub first : RowPart
  pub after : List RowPart
  pub is_row : row ≡ before ++ first ∷ after
  pub sound : Each before (λ p. part_break es p ≡ None)
  pub told : part_break es first ≡ Some b

-- an object under such a kind is told just that
abbrev pub TellsFirst : {A : Type 0} → (Bool → Value → Checked A) → (Bool → List RowPart) → Type 0
TellsFirst check row = (legacy : Bool) (v : Value) (es : List ValueEntry) (b : Break) → plain_object_in v ≡ Some es
    → (check legacy v ≡ Err b) ↔ IsFirstOfRow (row legacy) es b

-- a colour's space is told where it is broken, and else the first of the parts behind it
pub record ColorsTellFirst : Type 0 where
  pub space : (legacy : Bool) (v : Value) (es : List ValueEntry) (b : Break) → plain_object_in v ≡ Some es
      → member (word_in ColorSpace spaces) (codes "colorSpace") es ≡ Err b → color_in legacy v ≡ Err b
  pub others : (legacy : Bool) (v : Value) (es : List ValueEntry) (space : Space) (b : Break) → plain_object_in v ≡ Some es
      → member (word_in ColorSpace spaces) (codes "colorSpace") es ≡ Ok space → (color_in legacy v ≡ Err b) ↔ IsFirstOfRow (color_parts space) es b

-- The break is that of an item, seen from the list, and no item before it is broken.
pub record IsFirstOfItems (breaks : Breaks) (vs : List Value) (b : Break) : Type 0 where
  pub before : List Value
  pub first : Value
  pub after : List Value
  pub are : vs ≡ before ++ first ∷ after
  pub sound : Each before (λ v. breaks v ≡ None)
  pub inner : Break
  pub breaks_so : breaks first ≡ Some inner
  pub told : b ≡ outside (decimal (length before)) inner

-- a list of none or more items is told just that
abbrev pub ItemsTellFirst : {A B : Type 0} → (Value → Checked A) → (Value → Checked B) → Type 0
ItemsTellFirst check list = (v : Value) (vs : List Value) (b : Break) → plain_array_in v ≡ Some vs → (list v ≡ Err b) ↔ IsFirstOfItems (λ w. broken_by (check w)) vs b

-- and so is one of one or more; an empty one is told itself
pub record SomeItemsTellFirst {A B : Type 0} (check : Value → Checked A) (list : Value → Checked B) : Type 0 where
  pub items : (v w : Value) (ws : List Value) (b : Break) → plain_array_in v ≡ Some (w ∷ ws)
      → (list v ≡ Err b) ↔ IsFirstOfItems (λ x. broken_by (check x)) (w ∷ ws) b
  pub empty : (v : Value) → plain_array_in v ≡ Some [] → list v ≡ broken ValueShape

-- What parts break one after another: the first of them that breaks something breaks this.
pub record IsFirstOf (told : List (Option Break)) (b : Break) : Type 0 where
  pub before : List (Option Break)
  pub after : List (Option Break)
  pub are : told ≡ before ++ Some b ∷ after
  pub sound : Each before (λ o. o ≡ None)

-- what the i-th item breaks, seen from its list
abbrev pub at_item : {A : Type 0} → ℕ → Checked A → Option Break
at_item i checked = option_map (outside (decimal i)) (broken_by checked)

-- the four numbers of a curve by their form, and then the first and the third by their range
abbrev pub share_in : Value → Checked Decimal
share_in v = number_in v >>= ranged BezierRange share

abbrev pub curve_breaks : Value → Value → Value → Value → List (Option Break)
curve_breaks a b c d =
    at_item 0 (number_in a) ∷ at_item 1 (number_in b) ∷ at_item 2 (number_in c) ∷ at_item 3 (number_in d)
    ∷ at_item 0 (share_in a) ∷ at_item 2 (share_in c) ∷ []

-- the three components of a colour by their form, and then each by its range
abbrev pub component_within : Range → Value → Checked (Option Decimal)
component_within range v = component_in v >>= ranged_component range

abbrev pub components_breaks : Space → Value → Value → Value → List (Option Break)
components_breaks space a b c =
    at_item 0 (component_in a) ∷ at_item 1 (component_in b) ∷ at_item 2 (component_in c)
    ∷ at_item 0 (component_within (ranges_of space).first a) ∷ at_item 1 (component_within (ranges_of space).second b)
    ∷ at_item 2 (component_within (ranges_of space).third c) ∷ []

pub record CurvesTellFirst : Type 0 where
  pub items : (v a b c d : Value) (x : Break) → plain_array_in v ≡ Some (a ∷ b ∷ c ∷ d ∷ [])
      → (curve_in v ≡ Err x) ↔ IsFirstOf (curve_breaks a b c d) x
  pub other_length : (v : Value) (vs : List Value) → plain_array_in v ≡ Some vs → (length vs ≡ 4 → ⊥) → curve_in v ≡ broken ValueShape

pub record ComponentsTellFirst : Type 0 where
  pub items : (space : Space) (v a b c : Value) (x : Break) → plain_array_in v ≡ Some (a ∷ b ∷ c ∷ [])
      → (components_in space v ≡ Err x) ↔ IsFirstOf (components_breaks space a b c) x
  pub other_length : (space : Space) (v : Value) (vs : List Value) → plain_array_in v ≡ Some vs → (length vs ≡ 3 → ⊥) → components_in space v ≡ broken ValueShape

-- a shadow that is one object, where it has no member `0`
abbrev pub OneShadowTellsFirst : Type 0
OneShadowTellsFirst = (legacy : Bool) (v : Value) (es : List ValueEntry) (b : Break) → plain_object_in v ≡ Some es → named (codes "0") es ≡ None
    → (shadows_in legacy v ≡ Err b) ↔ IsFirstOfRow (shadow_parts legacy) es b

pub record RowsTellFirst : Type 0 where
  pub size : TellsFirst size_in (λ legacy. size_parts)
  pub time : TellsFirst time_in (λ legacy. time_parts)
  pub curve : CurvesTellFirst
  pub families : SomeItemsTellFirst text_in families_in
  pub color : ColorsTellFirst
  pub components : ComponentsTellFirst
  pub stroke : TellsFirst stroke_in stroke_parts
  pub dashes : (legacy : Bool) → ItemsTellFirst (size_in legacy) (list_in (size_in legacy))
  pub border : TellsFirst border_in border_parts
  pub transition : TellsFirst transition_in transition_parts
  pub shadow : TellsFirst shadow_item_in shadow_parts
  pub one_shadow : OneShadowTellsFirst
  pub shadows : (legacy : Bool) → SomeItemsTellFirst (shadow_item_in legacy) (shadows_in legacy)
  pub stop : TellsFirst stop_in stop_parts
  pub gradient : (legacy : Bool) → SomeItemsTellFirst (stop_in legacy) (gradient_in legacy)
  pub typography : TellsFirst typography_in typography_parts
