-- The steps of breaks, followed into the value.
use Rattle.std.proofs.Common.{◌≡◌, ℕ, Bool, List, [], ◌∷◌, codes, pos, Option, Some, None, Ok, Err}
use Rattle.std.specs.Prelude.{slice_get}
use Rattle.std.specs.Fmt.{decimal}
use Rattle.json_span.specs.Plain.{plain_number_in, plain_string_in, plain_array_in}
use Rattle.json_span.specs.PlainView.{Value}
use Rattle.dec_fix.specs.Decimal.{Decimal}
use Rattle.dec_fix.specs.Arithmetic.{whole_decimal}
use Rattle.dec_fix.specs.Reading.{number_of}
use Rattle.name_path.specs.declared.kind.Kind.{Kind}
use Rattle.name_path.specs.declared.kind.Kind.TheVariants as kind
use Rattle.type_rules.specs.declared.fault.ValueRule.{ValueRule}
use Rattle.type_rules.specs.declared.fault.ValueRule.TheVariants.{ValueShape, NumberWide, DimensionUnit, DurationUnit, BezierRange, WeightRange, WeightWord, ColorSpace, ColorRange, ColorAlpha, ColorHex, LegacyText}
use Rattle.type_rules.specs.declared.range.Range.{Range}
use Rattle.type_rules.specs.declared.range.Range.TheVariants.{Within}
use Rattle.type_rules.specs.declared.space.Ranges.{Ranges}
use Rattle.type_rules.specs.declared.space.Space.{Space}
use Rattle.type_rules.specs.declared.components.Components.{Components}
use Rattle.type_rules.specs.declared.curve.Curve.{Curve}
use Rattle.type_rules.specs.declared.simple.Simple.{Simple}
use Rattle.type_rules.specs.Checked.{Checked, Break, or_broken, under}
use Rattle.type_rules.specs.Forms.{number_in, text_in, members_in, if_text, items_of_length, member, member_or, item, some_in}
use Rattle.type_rules.specs.Ranges.{holds, ranged, share, ranges_of}
use Rattle.type_rules.specs.Words.{meaning, word_in, size_units, time_units, weights, spaces}
use Rattle.type_rules.specs.Legacy.{legacy_text_in, split_measure, measure_of_text, legacy_color, color_of_text}
use Rattle.type_rules.specs.Value.{size_in, time_in, four_numbers, ranged_curve, curve_in, measure_in_object, measure_in, families_in, weight_of_word, weight_of_number, weight_in, component_of_word, component_of_number, component_in, three_components, ranged_component, ranged_components, components_in, alpha_in, hex_digits, hex_in, color_in_object, color_in, simple_value}
use Rattle.type_rules.proofs.Keeping.{made}
use Rattle.type_rules.proofs.Leading.{Led, either, sound, own, own_or, own_test, by_index, members_led, members_are, length_led, length_are, member_led, member_or_led, item_led, item_there, some_lead, texts_lead, words_lead}
use Rattle.type_rules.specs.Trails.{BreaksLead}

pub numbers_lead : BreaksLead number_in
unfolding number_in
numbers_lead v b e = either (or_broken ValueShape (plain_number_in v)) _ b e (own_or v ValueShape (plain_number_in v) b) (λ s h e2. own_or v NumberWide (number_of s) b e2)

objects_lead : {U : Type 0} (rule : ValueRule) (units : List (List ℕ × U)) → BreaksLead (measure_in_object rule units)
unfolding measure_in_object
objects_lead rule units v b e =
    either (members_in v) _ b e (members_led v b) (λ es h e2.
    either (member number_in (codes "value") es) _ b e2 (member_led number_in numbers_lead v es (codes "value") b (members_are v es h)) (λ value i e3.
    either (member (word_in rule units) (codes "unit") es) _ b e3 (member_led (word_in rule units) (words_lead rule units) v es (codes "unit") b (members_are v es h)) (λ unit j e4.
    sound _ b e4)))

measures_by : {U : Type 0} (t : Option (List ℕ)) (rule : ValueRule) (units : List (List ℕ × U)) (v : Value) (b : Break) → if_text t (measure_of_text units) (measure_in_object rule units v) ≡ Err b → Led v b
unfolding measure_of_text
measures_by (Some text) rule units v b e =
    either (or_broken LegacyText (split_measure units text)) _ b e (own_or v LegacyText (split_measure units text) b) (λ m h e2.
    either (or_broken NumberWide (number_of m.0)) _ b e2 (own_or v NumberWide (number_of m.0) b) (λ value k e3.
    sound _ b e3))
measures_by None rule units v b e = objects_lead rule units v b e

measures_lead : {U : Type 0} (legacy : Bool) (rule : ValueRule) (units : List (List ℕ × U)) → BreaksLead (measure_in legacy rule units)
unfolding measure_in
measures_lead legacy rule units v b e = measures_by (legacy_text_in legacy v) rule units v b e

pub sizes_lead : (legacy : Bool) → BreaksLead (size_in legacy)
unfolding size_in
sizes_lead legacy v b e = either (measure_in legacy DimensionUnit size_units v) _ b e (measures_lead legacy DimensionUnit size_units v b) (λ m h e2. sound _ b e2)

pub times_lead : (legacy : Bool) → BreaksLead (time_in legacy)
unfolding time_in
times_lead legacy v b e = either (measure_in legacy DurationUnit time_units v) _ b e (measures_lead legacy DurationUnit time_units v b) (λ m h e2. sound _ b e2)

own_range : (v : Value) (rule : ValueRule) (range : Range) (d : Decimal) (b : Break) → ranged rule range d ≡ Err b → Led v b
unfolding ranged
own_range v rule range d b e = own_test v rule (holds range d) d b e

ranged_led : {A : Type 0} (v : Value) (vs : List Value) (i : ℕ) (p : Checked A) (b : Break) → plain_array_in v ≡ Some vs → ((w : Value) × (slice_get vs i ≡ Some w)) → ((w : Value) (c : Break) → p ≡ Err c → Led w c) → under (decimal i) p ≡ Err b → Led v b
ranged_led v vs i p b o (w, n) k e = by_index v w vs i p b o n (k w) e

-- an item that is there
abbrev There : List Value → ℕ → Type 0
There vs i = (w : Value) × (slice_get vs i ≡ Some w)

-- curves

four_led : BreaksLead four_numbers
unfolding four_numbers
four_led v b e =
    either (items_of_length 4 v) _ b e (length_led 4 v b) (λ vs h e1.
    either (item number_in 0 vs) _ b e1 (item_led number_in numbers_lead v vs 0 b (length_are 4 v vs h)) (λ x1 i e2.
    either (item number_in 1 vs) _ b e2 (item_led number_in numbers_lead v vs 1 b (length_are 4 v vs h)) (λ y1 j e3.
    either (item number_in 2 vs) _ b e3 (item_led number_in numbers_lead v vs 2 b (length_are 4 v vs h)) (λ x2 k e4.
    either (item number_in 3 vs) _ b e4 (item_led number_in numbers_lead v vs 3 b (length_are 4 v vs h)) (λ y2 l e5.
    sound _ b e5)))))

four_there : {P : Type 0} (v : Value) (c : Curve) → four_numbers v ≡ Ok c → ((vs : List Value) → plain_array_in v ≡ Some vs → There vs 0 → There vs 2 → P) → P
unfolding four_numbers
four_there v c e k =
    made (items_of_length 4 v) _ c e (λ vs h e1.
    made (item number_in 0 vs) _ c e1 (λ x1 i e2.
    made (item number_in 1 vs) _ c e2 (λ y1 j e3.
    made (item number_in 2 vs) _ c e3 (λ x2 l e4.
    item_there number_in numbers_lead vs 0 x1 i (λ w n.
    item_there number_in numbers_lead vs 2 x2 l (λ u m.
    k vs (length_are 4 v vs h) (w, n) (u, m)))))))

ranged_curve_led : (v : Value) (vs : List Value) (c : Curve) (b : Break) → plain_array_in v ≡ Some vs → There vs 0 → There vs 2 → ranged_curve c ≡ Err b → Led v b
unfolding ranged_curve
ranged_curve_led v vs c b o n m e =
    either (under (decimal 0) (ranged BezierRange share c.x1)) _ b e (ranged_led v vs 0 (ranged BezierRange share c.x1) b o n (λ w d h. own_range w BezierRange share c.x1 d h)) (λ x1 i e2.
    either (under (decimal 2) (ranged BezierRange share c.x2)) _ b e2 (ranged_led v vs 2 (ranged BezierRange share c.x2) b o m (λ w d h. own_range w BezierRange share c.x2 d h)) (λ x2 j e3.
    sound _ b e3))

pub curves_lead : BreaksLead curve_in
unfolding curve_in
curves_lead v b e = either (four_numbers v) _ b e (four_led v b) (λ c h e2. four_there v c h (λ vs o n m. ranged_curve_led v vs c b o n m e2))

-- font families

families_by : (t : Option (List ℕ)) (v : Value) (b : Break) → if_text t (λ family. Ok (family ∷ [])) (some_in text_in v) ≡ Err b → Led v b
families_by (Some family) v b e = sound _ b e
families_by None v b e = some_lead text_in texts_lead v b e

pub families_lead : BreaksLead families_in
unfolding families_in
families_lead v b e = families_by (plain_string_in v) v b e

-- font weights

weights_by : (t : Option (List ℕ)) (v : Value) (b : Break) → if_text t weight_of_word (weight_of_number v) ≡ Err b → Led v b
unfolding weight_of_word weight_of_number
weights_by (Some word) v b e = either (or_broken WeightWord (meaning weights word)) _ b e (own_or v WeightWord (meaning weights word) b) (λ n h e2. sound _ b e2)
weights_by None v b e = either (number_in v) _ b e (numbers_lead v b) (λ n h e2. own_range v WeightRange (Within 1 1000) n b e2)

pub weights_lead : BreaksLead weight_in
unfolding weight_in
weights_lead v b e = weights_by (plain_string_in v) v b e

-- colours

component_by : (t : Option (List ℕ)) (v : Value) (b : Break) → if_text t component_of_word (component_of_number v) ≡ Err b → Led v b
unfolding component_of_number
component_by (Some word) v b e = own_test v ValueShape _ None b e
component_by None v b e = either (number_in v) _ b e (numbers_lead v b) (λ n h e2. sound _ b e2)

component_led : BreaksLead component_in
unfolding component_in
component_led v b e = component_by (plain_string_in v) v b e

three_led : BreaksLead three_components
unfolding three_components
three_led v b e =
    either (items_of_length 3 v) _ b e (length_led 3 v b) (λ vs h e1.
    either (item component_in 0 vs) _ b e1 (item_led component_in component_led v vs 0 b (length_are 3 v vs h)) (λ x i e2.
    either (item component_in 1 vs) _ b e2 (item_led component_in component_led v vs 1 b (length_are 3 v vs h)) (λ y j e3.
    either (item component_in 2 vs) _ b e3 (item_led component_in component_led v vs 2 b (length_are 3 v vs h)) (λ z k e4.
    sound _ b e4))))

three_there : {P : Type 0} (v : Value) (cs : Components) → three_components v ≡ Ok cs → ((vs : List Value) → plain_array_in v ≡ Some vs → There vs 0 → There vs 1 → There vs 2 → P) → P
unfolding three_components
three_there v cs e k =
    made (items_of_length 3 v) _ cs e (λ vs h e1.
    made (item component_in 0 vs) _ cs e1 (λ x i e2.
    made (item component_in 1 vs) _ cs e2 (λ y j e3.
    made (item component_in 2 vs) _ cs e3 (λ z l e4.
    item_there component_in component_led vs 0 x i (λ w n.
    item_there component_in component_led vs 1 y j (λ u m.
    item_there component_in component_led vs 2 z l (λ t q.
    k vs (length_are 3 v vs h) (w, n) (u, m) (t, q))))))))

own_component : (v : Value) (range : Range) (o : Option Decimal) (b : Break) → ranged_component range o ≡ Err b → Led v b
unfolding ranged_component
own_component v range None b e = sound _ b e
own_component v range (Some d) b e = either (ranged ColorRange range d) _ b e (own_range v ColorRange range d b) (λ n h e2. sound _ b e2)

ranged_components_led : (v : Value) (vs : List Value) (ranges : Ranges) (cs : Components) (b : Break) → plain_array_in v ≡ Some vs → There vs 0 → There vs 1 → There vs 2 → ranged_components ranges cs ≡ Err b → Led v b
unfolding ranged_components
ranged_components_led v vs ranges cs b o n m q e =
    either (under (decimal 0) (ranged_component ranges.first cs.first)) _ b e (ranged_led v vs 0 (ranged_component ranges.first cs.first) b o n (λ w d h. own_component w ranges.first cs.first d h)) (λ x i e2.
    either (under (decimal 1) (ranged_component ranges.second cs.second)) _ b e2 (ranged_led v vs 1 (ranged_component ranges.second cs.second) b o m (λ w d h. own_component w ranges.second cs.second d h)) (λ y j e3.
    either (under (decimal 2) (ranged_component ranges.third cs.third)) _ b e3 (ranged_led v vs 2 (ranged_component ranges.third cs.third) b o q (λ w d h. own_component w ranges.third cs.third d h)) (λ z k e4.
    sound _ b e4)))

components_led : (space : Space) → BreaksLead (components_in space)
unfolding components_in
components_led space v b e =
    either (three_components v) _ b e (three_led v b) (λ cs h e2.
    three_there v cs h (λ vs o n m q. ranged_components_led v vs (ranges_of space) cs b o n m q e2))

alpha_led : BreaksLead alpha_in
unfolding alpha_in
alpha_led v b e = either (number_in v) _ b e (numbers_lead v b) (λ n h e2. own_range v ColorAlpha share n b e2)

hex_led : BreaksLead hex_in
unfolding hex_in
hex_led v b e =
    either (text_in v) _ b e (texts_lead v b) (λ text h e2.
    either (or_broken ColorHex (hex_digits text)) _ b e2 (own_or v ColorHex (hex_digits text) b) (λ ds k e3.
    sound _ b e3))

color_objects_lead : BreaksLead color_in_object
unfolding color_in_object
color_objects_lead v b e =
    either (members_in v) _ b e (members_led v b) (λ es h e1.
    either (member (word_in ColorSpace spaces) (codes "colorSpace") es) _ b e1 (member_led (word_in ColorSpace spaces) (words_lead ColorSpace spaces) v es (codes "colorSpace") b (members_are v es h)) (λ space i e2.
    either (member (components_in space) (codes "components") es) _ b e2 (member_led (components_in space) (components_led space) v es (codes "components") b (members_are v es h)) (λ cs j e3.
    either (member_or alpha_in (whole_decimal (pos 1)) (codes "alpha") es) _ b e3 (member_or_led alpha_in alpha_led v es (whole_decimal (pos 1)) (codes "alpha") b (members_are v es h)) (λ alpha k e4.
    either (member_or hex_in None (codes "hex") es) _ b e4 (member_or_led hex_in hex_led v es None (codes "hex") b (members_are v es h)) (λ hex l e5.
    sound _ b e5)))))

colors_by : (t : Option (List ℕ)) (v : Value) (b : Break) → if_text t color_of_text (color_in_object v) ≡ Err b → Led v b
unfolding color_of_text
colors_by (Some text) v b e = own_or v LegacyText (legacy_color text) b e
colors_by None v b e = color_objects_lead v b e

pub colors_lead : (legacy : Bool) → BreaksLead (color_in legacy)
unfolding color_in
colors_lead legacy v b e = colors_by (legacy_text_in legacy v) v b e

-- values

pub values_lead : (legacy : Bool) (k : Kind) → BreaksLead (simple_value legacy k)
unfolding simple_value
values_lead legacy kind.Color v b e = either (color_in legacy v) _ b e (colors_lead legacy v b) (λ x h e2. sound _ b e2)
values_lead legacy kind.Dimension v b e = either (size_in legacy v) _ b e (sizes_lead legacy v b) (λ x h e2. sound _ b e2)
values_lead legacy kind.FontFamily v b e = either (families_in v) _ b e (families_lead v b) (λ x h e2. sound _ b e2)
values_lead legacy kind.FontWeight v b e = either (weight_in v) _ b e (weights_lead v b) (λ x h e2. sound _ b e2)
values_lead legacy kind.Duration v b e = either (time_in legacy v) _ b e (times_lead legacy v b) (λ x h e2. sound _ b e2)
values_lead legacy kind.CubicBezier v b e = either (curve_in v) _ b e (curves_lead v b) (λ x h e2. sound _ b e2)
values_lead legacy kind.Number v b e = either (number_in v) _ b e (numbers_lead v b) (λ x h e2. sound _ b e2)
values_lead legacy kind.StrokeStyle v b e = own {A = Simple} v ValueShape b e
values_lead legacy kind.Border v b e = own {A = Simple} v ValueShape b e
values_lead legacy kind.Transition v b e = own {A = Simple} v ValueShape b e
values_lead legacy kind.Shadow v b e = own {A = Simple} v ValueShape b e
values_lead legacy kind.Gradient v b e = own {A = Simple} v ValueShape b e
values_lead legacy kind.Typography v b e = own {A = Simple} v ValueShape b e
