-- The steps of breaks, followed into the value.
use Rattle.std.proofs.Common.{◌≡◌, Bool, ℕ, List, [], ◌∷◌, codes, false, Option, Some, None, Err, refl}
use Rattle.json_span.specs.Plain.{plain_null, plain_boolean, plain_number, plain_string, plain_array, plain_object, plain_string_in, plain_array_in, plain_object_in, plain_boolean_in}
use Rattle.json_span.specs.PlainView.{Value, ValueEntry}
use Rattle.name_path.specs.declared.kind.Kind.{Kind}
use Rattle.name_path.specs.declared.kind.Kind.TheVariants as kind
use Rattle.type_rules.specs.declared.fault.ValueRule.TheVariants.{ValueShape, StrokeWord, StrokeCap}
use Rattle.type_rules.specs.Checked.{Break, broken, or_broken}
use Rattle.type_rules.specs.Forms.{number_in, members_in, if_text, named, member, member_or, list_in, some_in}
use Rattle.type_rules.specs.Words.{meaning, word_in}
use Rattle.type_rules.specs.Value.{color_in, size_in, time_in, curve_in, families_in, weight_in, simple_value}
use Rattle.type_rules.specs.Trails.{BreaksLead}
use Rattle.type_rules.proofs.Leading.{Led, either, sound, own, own_or, by_name, members_led, members_are, member_led, member_or_led, lists_lead, some_lead, words_lead}
use Rattle.type_rules.proofs.Led.{numbers_lead, colors_lead, sizes_lead, times_lead, curves_lead, families_lead, weights_lead, values_lead as simples_lead}
use Rattle.composite_rules.specs.declared.shadow.ShadowItem.{ShadowItem}
use Rattle.composite_rules.specs.Words.{stroke_words, caps}
use Rattle.composite_rules.specs.Value.{stroke_of_word, dashes_in, stroke_in, border_in, transition_in, boolean_in, shadow_item_in, unless_zero, one_item, one_shadow, if_list, shadows_in, stop_in, gradient_in, typography_in, simple_in, value_of}

-- stroke styles

dashes_lead : (legacy : Bool) → BreaksLead (dashes_in legacy)
unfolding dashes_in
dashes_lead legacy v b e =
    either (members_in v) _ b e (members_led v b) (λ es h e1.
    either (member (list_in (size_in legacy)) (codes "dashArray") es) _ b e1 (member_led (list_in (size_in legacy)) (lists_lead (size_in legacy) (sizes_lead legacy)) v es (codes "dashArray") b (members_are v es h)) (λ lengths i e2.
    either (member (word_in StrokeCap caps) (codes "lineCap") es) _ b e2 (member_led (word_in StrokeCap caps) (words_lead StrokeCap caps) v es (codes "lineCap") b (members_are v es h)) (λ cap j e3.
    sound _ b e3)))

strokes_by : (legacy : Bool) (o : Option (List ℕ)) (v : Value) (b : Break) → if_text o stroke_of_word (dashes_in legacy v) ≡ Err b → Led v b
unfolding stroke_of_word
strokes_by legacy (Some text) v b e = either (or_broken StrokeWord (meaning stroke_words text)) _ b e (own_or v StrokeWord (meaning stroke_words text) b) (λ word h e2. sound _ b e2)
strokes_by legacy None v b e = dashes_lead legacy v b e

pub strokes_lead : (legacy : Bool) → BreaksLead (stroke_in legacy)
unfolding stroke_in
strokes_lead legacy v b e = strokes_by legacy (plain_string_in v) v b e

-- borders and transitions

pub borders_lead : (legacy : Bool) → BreaksLead (border_in legacy)
unfolding border_in
borders_lead legacy v b e =
    either (members_in v) _ b e (members_led v b) (λ es h e1.
    either (member (color_in legacy) (codes "color") es) _ b e1 (member_led (color_in legacy) (colors_lead legacy) v es (codes "color") b (members_are v es h)) (λ color i e2.
    either (member (size_in legacy) (codes "width") es) _ b e2 (member_led (size_in legacy) (sizes_lead legacy) v es (codes "width") b (members_are v es h)) (λ width j e3.
    either (member (stroke_in legacy) (codes "style") es) _ b e3 (member_led (stroke_in legacy) (strokes_lead legacy) v es (codes "style") b (members_are v es h)) (λ style k e4.
    sound _ b e4))))

pub transitions_lead : (legacy : Bool) → BreaksLead (transition_in legacy)
unfolding transition_in
transitions_lead legacy v b e =
    either (members_in v) _ b e (members_led v b) (λ es h e1.
    either (member (time_in legacy) (codes "duration") es) _ b e1 (member_led (time_in legacy) (times_lead legacy) v es (codes "duration") b (members_are v es h)) (λ duration i e2.
    either (member (time_in legacy) (codes "delay") es) _ b e2 (member_led (time_in legacy) (times_lead legacy) v es (codes "delay") b (members_are v es h)) (λ delay j e3.
    either (member curve_in (codes "timingFunction") es) _ b e3 (member_led curve_in curves_lead v es (codes "timingFunction") b (members_are v es h)) (λ timing k e4.
    sound _ b e4))))

-- shadows

booleans_lead : BreaksLead boolean_in
unfolding boolean_in
booleans_lead v b e = own_or v ValueShape (plain_boolean_in v) b e

pub shadow_items_lead : (legacy : Bool) → BreaksLead (shadow_item_in legacy)
unfolding shadow_item_in
shadow_items_lead legacy v b e =
    either (members_in v) _ b e (members_led v b) (λ es h e1.
    either (member (color_in legacy) (codes "color") es) _ b e1 (member_led (color_in legacy) (colors_lead legacy) v es (codes "color") b (members_are v es h)) (λ color i e2.
    either (member (size_in legacy) (codes "offsetX") es) _ b e2 (member_led (size_in legacy) (sizes_lead legacy) v es (codes "offsetX") b (members_are v es h)) (λ offset_x j e3.
    either (member (size_in legacy) (codes "offsetY") es) _ b e3 (member_led (size_in legacy) (sizes_lead legacy) v es (codes "offsetY") b (members_are v es h)) (λ offset_y k e4.
    either (member (size_in legacy) (codes "blur") es) _ b e4 (member_led (size_in legacy) (sizes_lead legacy) v es (codes "blur") b (members_are v es h)) (λ blur l e5.
    either (member (size_in legacy) (codes "spread") es) _ b e5 (member_led (size_in legacy) (sizes_lead legacy) v es (codes "spread") b (members_are v es h)) (λ spread m e6.
    either (member_or boolean_in false (codes "inset") es) _ b e6 (member_or_led boolean_in booleans_lead v es false (codes "inset") b (members_are v es h)) (λ inset n e7.
    sound _ b e7)))))))

one_lead : (legacy : Bool) → BreaksLead (one_item legacy)
unfolding one_item
one_lead legacy v b e = either (shadow_item_in legacy v) _ b e (shadow_items_lead legacy v b) (λ item h e2. sound _ b e2)

unless_led : (legacy : Bool) (o : Option Value) (v : Value) (es : List ValueEntry) (b : Break) → plain_object_in v ≡ Some es → named (codes "0") es ≡ o → unless_zero o (one_item legacy v) ≡ Err b → Led v b
unless_led legacy (Some zero) v es b o n e = by_name {A = List ShadowItem} v zero es (codes "0") (broken ValueShape) b o n (λ c h. own {A = List ShadowItem} zero ValueShape c h) e
unless_led legacy None v es b o n e = one_lead legacy v b e

shadows_by : (legacy : Bool) (o : Option (List Value)) (v : Value) (b : Break) → if_list o (some_in (shadow_item_in legacy) v) (one_shadow legacy v) ≡ Err b → Led v b
unfolding one_shadow
shadows_by legacy (Some vs) v b e = some_lead (shadow_item_in legacy) (shadow_items_lead legacy) v b e
shadows_by legacy None v b e = either (members_in v) _ b e (members_led v b) (λ es h e2. unless_led legacy (named (codes "0") es) v es b (members_are v es h) refl e2)

pub shadows_lead : (legacy : Bool) → BreaksLead (shadows_in legacy)
unfolding shadows_in
shadows_lead legacy v b e = shadows_by legacy (plain_array_in v) v b e

-- gradients and typography

pub stops_lead : (legacy : Bool) → BreaksLead (stop_in legacy)
unfolding stop_in
stops_lead legacy v b e =
    either (members_in v) _ b e (members_led v b) (λ es h e1.
    either (member (color_in legacy) (codes "color") es) _ b e1 (member_led (color_in legacy) (colors_lead legacy) v es (codes "color") b (members_are v es h)) (λ color i e2.
    either (member number_in (codes "position") es) _ b e2 (member_led number_in numbers_lead v es (codes "position") b (members_are v es h)) (λ position j e3.
    sound _ b e3)))

pub gradients_lead : (legacy : Bool) → BreaksLead (gradient_in legacy)
unfolding gradient_in
gradients_lead legacy v b e = some_lead (stop_in legacy) (stops_lead legacy) v b e

pub typographies_lead : (legacy : Bool) → BreaksLead (typography_in legacy)
unfolding typography_in
typographies_lead legacy v b e =
    either (members_in v) _ b e (members_led v b) (λ es h e1.
    either (member families_in (codes "fontFamily") es) _ b e1 (member_led families_in families_lead v es (codes "fontFamily") b (members_are v es h)) (λ family i e2.
    either (member (size_in legacy) (codes "fontSize") es) _ b e2 (member_led (size_in legacy) (sizes_lead legacy) v es (codes "fontSize") b (members_are v es h)) (λ size j e3.
    either (member weight_in (codes "fontWeight") es) _ b e3 (member_led weight_in weights_lead v es (codes "fontWeight") b (members_are v es h)) (λ weight k e4.
    either (member (size_in legacy) (codes "letterSpacing") es) _ b e4 (member_led (size_in legacy) (sizes_lead legacy) v es (codes "letterSpacing") b (members_are v es h)) (λ spacing l e5.
    either (member number_in (codes "lineHeight") es) _ b e5 (member_led number_in numbers_lead v es (codes "lineHeight") b (members_are v es h)) (λ line_height m e6.
    sound _ b e6))))))

-- values

simples : (legacy : Bool) (k : Kind) → BreaksLead (simple_in legacy k)
unfolding simple_in
simples legacy k v b e = either (simple_value legacy k v) _ b e (simples_lead legacy k v b) (λ s h e2. sound _ b e2)

pub values_lead : (legacy : Bool) (k : Kind) → BreaksLead (value_of legacy k)
unfolding value_of
values_lead legacy kind.Color v b e = simples legacy kind.Color v b e
values_lead legacy kind.Dimension v b e = simples legacy kind.Dimension v b e
values_lead legacy kind.FontFamily v b e = simples legacy kind.FontFamily v b e
values_lead legacy kind.FontWeight v b e = simples legacy kind.FontWeight v b e
values_lead legacy kind.Duration v b e = simples legacy kind.Duration v b e
values_lead legacy kind.CubicBezier v b e = simples legacy kind.CubicBezier v b e
values_lead legacy kind.Number v b e = simples legacy kind.Number v b e
values_lead legacy kind.StrokeStyle v b e = either (stroke_in legacy v) _ b e (strokes_lead legacy v b) (λ x h e2. sound _ b e2)
values_lead legacy kind.Border v b e = either (border_in legacy v) _ b e (borders_lead legacy v b) (λ x h e2. sound _ b e2)
values_lead legacy kind.Transition v b e = either (transition_in legacy v) _ b e (transitions_lead legacy v b) (λ x h e2. sound _ b e2)
values_lead legacy kind.Shadow v b e = either (shadows_in legacy v) _ b e (shadows_lead legacy v b) (λ x h e2. sound _ b e2)
values_lead legacy kind.Gradient v b e = either (gradient_in legacy v) _ b e (gradients_lead legacy v b) (λ x h e2. sound _ b e2)
values_lead legacy kind.Typography v b e = either (typography_in legacy v) _ b e (typographies_lead legacy v b) (λ x h e2. sound _ b e2)

-- a member `0`
pub array_none : (v : Value) (es : List ValueEntry) → plain_object_in v ≡ Some es → plain_array_in v ≡ None
array_none plain_null es o = refl
array_none (plain_boolean b) es o = refl
array_none (plain_number k) es o = refl
array_none (plain_string s) es o = refl
array_none (plain_array vs) es o = absurd (let h : ⊥ = cc in h)
array_none (plain_object ms) es o = refl

pub zeros_break : (legacy : Bool) (v zero : Value) (es : List ValueEntry) → plain_object_in v ≡ Some es → named (codes "0") es ≡ Some zero → value_of legacy kind.Shadow v ≡ Err (record { rule = ValueShape; trail = codes "0" ∷ [] })
unfolding value_of shadows_in one_shadow members_in
zeros_break legacy v zero es o n = rw (array_none v es o, o, n) refl
