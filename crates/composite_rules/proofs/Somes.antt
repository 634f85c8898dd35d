-- Each typed value that keeps what values of its kind keep is the value of some plain value.
use Rattle.std.proofs.Common.{◌≡◌, Bool, List, [], ◌∷◌, map, codes, Ok, refl}
use Rattle.json_span.specs.Plain.{plain_boolean, plain_string}
use Rattle.json_span.specs.PlainView.{Value}
use Rattle.type_rules.specs.declared.fault.ValueRule.TheVariants.{StrokeCap}
use Rattle.type_rules.specs.declared.simple.Simple.{Simple}
use Rattle.type_rules.specs.declared.simple.Simple.TheVariants as simple
use Rattle.type_rules.specs.Forms.{members_in, member, member_or}
use Rattle.type_rules.specs.Value.{size_in, simple_value}
use Rattle.type_rules.specs.Sound.{kind_of as simple_kind_of, IsSize}
use Rattle.type_rules.proofs.Somes.{entry, object, array, number, number_some, word_some, plain_size, size_some, plain_time, time_some, plain_curve, curve_some, plain_families, families_some, weight_some, plain_color, color_some, list_some, some_some, values_some as simples_some}
use Rattle.composite_rules.specs.declared.stroke.Stroke.{Stroke}
use Rattle.composite_rules.specs.declared.stroke.Stroke.TheVariants as stroke
use Rattle.composite_rules.specs.declared.border.Border.{Border}
use Rattle.composite_rules.specs.declared.transition.Transition.{Transition}
use Rattle.composite_rules.specs.declared.shadow.ShadowItem.{ShadowItem}
use Rattle.composite_rules.specs.declared.gradient.ColorStop.{ColorStop}
use Rattle.composite_rules.specs.declared.typography.Typography.{Typography}
use Rattle.composite_rules.specs.declared.typed.Typed.{Typed}
use Rattle.composite_rules.specs.declared.typed.Typed.TheVariants as typed
use Rattle.composite_rules.specs.Words.{stroke_word_name, caps, cap_name}
use Rattle.composite_rules.specs.Value.{stroke_of_word, dashes_in, stroke_in, border_in, transition_in, boolean_in, shadow_item_in, shadows_in, stop_in, gradient_in, typography_in, simple_in, value_of}
use Rattle.composite_rules.specs.Sound.{kind_of, IsStroke, IsBorder, IsTransition, IsShadowItem, IsShadows, IsColorStop, IsStops, IsTypography, IsTyped}
use Rattle.composite_rules.proofs.Kept.{shares_stay}
use Rattle.composite_rules.proofs.WordFacts.{word_found, cap_found}

abbrev plain_stroke : Stroke → Value
plain_stroke (stroke.Word w) = plain_string (stroke_word_name w)
plain_stroke (stroke.Dashes lengths cap) = object (entry (codes "dashArray") (array (map plain_size lengths)) ∷ entry (codes "lineCap") (plain_string (cap_name cap)) ∷ [])

stroke_some : (legacy : Bool) (s : Stroke) → IsStroke s → stroke_in legacy (plain_stroke s) ≡ Ok s
unfolding stroke_in stroke_of_word dashes_in members_in member
stroke_some legacy (stroke.Word w) h = rw (word_found w) refl
stroke_some legacy (stroke.Dashes lengths cap) h = rw (list_some (size_in legacy) IsSize plain_size (size_some legacy) lengths h, word_some StrokeCap caps (cap_name cap) cap (cap_found cap)) refl

abbrev plain_border : Border → Value
plain_border b = object (entry (codes "color") (plain_color b.color) ∷ entry (codes "width") (plain_size b.width) ∷ entry (codes "style") (plain_stroke b.style) ∷ [])

border_some : (legacy : Bool) (b : Border) → IsBorder b → border_in legacy (plain_border b) ≡ Ok b
unfolding border_in members_in member
border_some legacy b h = rw (color_some legacy b.color h.color, size_some legacy b.width h.width, stroke_some legacy b.style h.style) refl

abbrev plain_transition : Transition → Value
plain_transition t = object (entry (codes "duration") (plain_time t.duration) ∷ entry (codes "delay") (plain_time t.delay) ∷ entry (codes "timingFunction") (plain_curve t.timing) ∷ [])

transition_some : (legacy : Bool) (t : Transition) → IsTransition t → transition_in legacy (plain_transition t) ≡ Ok t
unfolding transition_in members_in member
transition_some legacy t h = rw (time_some legacy t.duration h.duration, time_some legacy t.delay h.delay, curve_some t.timing h.timing) refl

abbrev plain_shadow : ShadowItem → Value
plain_shadow item = object (
    entry (codes "color") (plain_color item.color)
    ∷ entry (codes "offsetX") (plain_size item.offset_x)
    ∷ entry (codes "offsetY") (plain_size item.offset_y)
    ∷ entry (codes "blur") (plain_size item.blur)
    ∷ entry (codes "spread") (plain_size item.spread)
    ∷ entry (codes "inset") (plain_boolean item.inset) ∷ [])

shadow_some : (legacy : Bool) (item : ShadowItem) → IsShadowItem item → shadow_item_in legacy (plain_shadow item) ≡ Ok item
unfolding shadow_item_in boolean_in members_in member member_or
shadow_some legacy item h = rw (color_some legacy item.color h.color, size_some legacy item.offset_x h.offset_x, size_some legacy item.offset_y h.offset_y, size_some legacy item.blur h.blur, size_some legacy item.spread h.spread) refl

shadows_some : (legacy : Bool) (items : List ShadowItem) → IsShadows items → shadows_in legacy (array (map plain_shadow items)) ≡ Ok items
unfolding shadows_in
shadows_some legacy items h = some_some (shadow_item_in legacy) IsShadowItem plain_shadow (shadow_some legacy) items h.some h.every

abbrev plain_stop : ColorStop → Value
plain_stop stop = object (entry (codes "color") (plain_color stop.color) ∷ entry (codes "position") (number stop.position) ∷ [])

stop_some : (legacy : Bool) (stop : ColorStop) → IsColorStop stop → stop_in legacy (plain_stop stop) ≡ Ok stop
unfolding stop_in members_in member
stop_some legacy stop h = rw (color_some legacy stop.color h.color, number_some stop.position h.position.exact, shares_stay stop.position h.position.part) refl

stops_some : (legacy : Bool) (stops : List ColorStop) → IsStops stops → gradient_in legacy (array (map plain_stop stops)) ≡ Ok stops
unfolding gradient_in
stops_some legacy stops h = some_some (stop_in legacy) IsColorStop plain_stop (stop_some legacy) stops h.some h.every

abbrev plain_typography : Typography → Value
plain_typography t = object (
    entry (codes "fontFamily") (plain_families t.family)
    ∷ entry (codes "fontSize") (plain_size t.size)
    ∷ entry (codes "fontWeight") (number t.weight)
    ∷ entry (codes "letterSpacing") (plain_size t.spacing)
    ∷ entry (codes "lineHeight") (number t.line_height) ∷ [])

typography_some : (legacy : Bool) (t : Typography) → IsTypography t → typography_in legacy (plain_typography t) ≡ Ok t
unfolding typography_in members_in member
typography_some legacy t h = rw (families_some t.family h.family, size_some legacy t.size h.size, weight_some t.weight h.weight, size_some legacy t.spacing h.spacing, number_some t.line_height h.line_height) refl

simple_some : (legacy : Bool) (s : Simple) (v : Value) → simple_value legacy (simple_kind_of s) v ≡ Ok s → value_of legacy (simple_kind_of s) v ≡ Ok (typed.Simple s)
unfolding value_of simple_in
simple_some legacy (simple.Color x) v e = rw e refl
simple_some legacy (simple.Dimension x) v e = rw e refl
simple_some legacy (simple.FontFamily x) v e = rw e refl
simple_some legacy (simple.FontWeight x) v e = rw e refl
simple_some legacy (simple.Duration x) v e = rw e refl
simple_some legacy (simple.CubicBezier x) v e = rw e refl
simple_some legacy (simple.Number x) v e = rw e refl

pub values_some : (legacy : Bool) (t : Typed) → IsTyped t → (v : Value) × (value_of legacy (kind_of t) v ≡ Ok t)
unfolding value_of
values_some legacy (typed.Simple s) h = let (v, e) = simples_some legacy s h in (v, simple_some legacy s v e)
values_some legacy (typed.StrokeStyle s) h = (plain_stroke s, rw (stroke_some legacy s h) refl)
values_some legacy (typed.Border b) h = (plain_border b, rw (border_some legacy b h) refl)
values_some legacy (typed.Transition t) h = (plain_transition t, rw (transition_some legacy t h) refl)
values_some legacy (typed.Shadow items) h = (array (map plain_shadow items), rw (shadows_some legacy items h) refl)
values_some legacy (typed.Gradient stops) h = (array (map plain_stop stops), rw (stops_some legacy stops h) refl)
values_some legacy (typed.Typography t) h = (plain_typography t, rw (typography_some legacy t h) refl)
