-- Each typed value that keeps what values of its kind keep is the value of some plain value. The crates above may use
-- this file.
use Rattle.std.proofs.Common.{◌≡◌, ◌≢◌, ℕ, ◌+◌, Bool, true, false, ◌&&◌, cond, List, [], ◌∷◌, map, codes, Option, Some, None, Ok, refl, ap, arith}
use Rattle.std.specs.Prelude.{⊤, IfSome}
use Rattle.std.specs.Char.{is_ascii_hexdigit, to_ascii_lowercase}
use Rattle.std.specs.List.{list_all, AllByRecursion}
use Rattle.std.specs.Ordering.{is_ge, is_le}
use Rattle.std.specs.declared.cmp.Ordering.{Ordering}
use Rattle.std.specs.declared.cmp.Ordering.TheVariants.{Less, Equal, Greater}
use Rattle.json_span.specs.Plain.{plain_number, plain_string, plain_array, plain_object, plains_of, plain_members_of, plains_in}
use Rattle.json_span.specs.PlainView.{Value, ValueEntry}
use Rattle.dec_fix.specs.Decimal.{Decimal, IsExact}
use Rattle.dec_fix.specs.Arithmetic.{IsFromZeroToOne, order_with}
use Rattle.dec_fix.specs.Writing.{spelling}
use Rattle.dec_fix.proofs.ReadingBack.{written_read}
use Rattle.type_rules.specs.declared.fault.ValueRule.{ValueRule}
use Rattle.type_rules.specs.declared.fault.ValueRule.TheVariants.{NumberWide, DimensionUnit, DurationUnit, BezierRange, WeightRange, ColorSpace, ColorRange, ColorAlpha}
use Rattle.type_rules.specs.declared.range.Range.{Range}
use Rattle.type_rules.specs.declared.range.Range.TheVariants.{Within}
use Rattle.type_rules.specs.declared.space.Space.{Space}
use Rattle.type_rules.specs.declared.color.Color.{Color}
use Rattle.type_rules.specs.declared.components.Components.{Components}
use Rattle.type_rules.specs.declared.size.Size.{Size}
use Rattle.type_rules.specs.declared.time.Time.{Time}
use Rattle.type_rules.specs.declared.curve.Curve.{Curve}
use Rattle.type_rules.specs.declared.simple.Simple.{Simple}
use Rattle.type_rules.specs.declared.simple.Simple.TheVariants as simple
use Rattle.type_rules.specs.Checked.{Checked, broken, or_broken}
use Rattle.type_rules.specs.Forms.{number_in, text_in, items_in, members_in, items_of_length, some_items_in, member, member_or, item, each, list_in, some_in}
use Rattle.type_rules.specs.Ranges.{holds, ranged, share, ranges_of}
use Rattle.type_rules.specs.Words.{meaning, word_in, size_units, size_unit_name, time_units, time_unit_name, spaces, space_name}
use Rattle.type_rules.specs.Value.{measure_in_object, measure_in, size_in, time_in, four_numbers, ranged_curve, curve_in, families_in, weight_of_number, weight_in, component_of_number, component_in, three_components, ranged_component, ranged_components, components_in, alpha_in, hex_in, color_in_object, color_in, simple_value}
use Rattle.type_rules.specs.Sound.{kind_of, IsInRange, IsShare, IsHex, is_hex_digit, IsColor, IsSize, IsTime, IsFamilies, IsWeight, IsCurve, IsSimple}
use Rattle.type_rules.proofs.WordFacts.{and_left, and_right, space_found, size_found, time_found}

-- a member, and an object of members
abbrev pub entry : List ℕ → Value → ValueEntry
entry name v = record { name = name; value = v }

abbrev pub object : List ValueEntry → Value
object es = plain_object (plain_members_of es)

abbrev pub array : List Value → Value
array vs = plain_array (plains_of vs)

abbrev pub number : Decimal → Value
number d = plain_number (spelling d)

pub number_some : (d : Decimal) → IsExact d → number_in (number d) ≡ Ok d
unfolding number_in
number_some d h = ap (or_broken NumberWide) (written_read d h)

pub word_some : {A : Type 0} (rule : ValueRule) (table : List (List ℕ × A)) (word : List ℕ) (x : A) → meaning table word ≡ Some x → word_in rule table (plain_string word) ≡ Ok x
unfolding word_in text_in
word_some rule table word x e = ap (or_broken rule) e

-- each item of a list
module _ {A : Type 0} (check : Value → Checked A) (P : A → Type 0) (plain : A → Value) (each_is : (x : A) → P x → check (plain x) ≡ Ok x) where
  pub each_some : (i : ℕ) (xs : List A) → AllByRecursion P xs → each check i (map plain xs) ≡ Ok xs
  each_some i [] h = refl
  each_some i (x ∷ xs) (h, hs) = rw (each_is x h, each_some (i + 1) xs hs) refl

  pub array_of : (xs : List A) → plains_in (plains_of (map plain xs)) ≡ map plain xs
  array_of [] = refl
  array_of (x ∷ xs) = ap (λ z. plain x ∷ z) (array_of xs)

  pub list_some : (xs : List A) → AllByRecursion P xs → list_in check (array (map plain xs)) ≡ Ok xs
  unfolding list_in items_in
  list_some xs h = rw (array_of xs) (each_some 0 xs h)

  pub some_some : (xs : List A) → xs ≢ [] → AllByRecursion P xs → some_in check (array (map plain xs)) ≡ Ok xs
  unfolding some_in some_items_in items_in
  some_some [] n h = absurd (n refl)
  some_some (x ∷ xs) n h = rw (array_of xs) (each_some 0 (x ∷ xs) h)

-- numbers in ranges

pub ranged_some : (rule : ValueRule) (range : Range) (d : Decimal) → holds range d ≡ true → ranged rule range d ≡ Ok d
unfolding ranged
ranged_some rule range d t = ap (λ b. cond b (Ok d) (broken rule)) t

ge_from : (o : Ordering) → o ≢ Less → is_ge o ≡ true
ge_from Less n = absurd (n refl)
ge_from Equal n = refl
ge_from Greater n = refl

le_from : (o : Ordering) → o ≢ Greater → is_le o ≡ true
le_from Less n = refl
le_from Equal n = refl
le_from Greater n = absurd (n refl)

both_true : (a b : Bool) → a ≡ true → b ≡ true → (a && b) ≡ true
both_true true true e f = refl
both_true true false e f = f
both_true false b e f = e

pub share_holds : (d : Decimal) → IsFromZeroToOne d → holds share d ≡ true
share_holds d h = both_true (is_ge (order_with d 0)) (is_le (order_with d 1)) (ge_from (order_with d 0) h.low) (le_from (order_with d 1) h.high)

-- lengths and durations

abbrev measure : Decimal → List ℕ → Value
measure d unit = object (entry (codes "value") (number d) ∷ entry (codes "unit") (plain_string unit) ∷ [])

measure_some : {U : Type 0} (rule : ValueRule) (units : List (List ℕ × U)) (d : Decimal) (word : List ℕ) (u : U) → IsExact d → meaning units word ≡ Some u → measure_in_object rule units (measure d word) ≡ Ok (d, u)
unfolding measure_in_object members_in member
measure_some rule units d word u h e = rw (number_some d h, word_some rule units word u e) refl

measured_some : {U : Type 0} (legacy : Bool) (rule : ValueRule) (units : List (List ℕ × U)) (d : Decimal) (word : List ℕ) (u : U) → IsExact d → meaning units word ≡ Some u → measure_in legacy rule units (measure d word) ≡ Ok (d, u)
unfolding measure_in
measured_some true rule units d word u h e = measure_some rule units d word u h e
measured_some false rule units d word u h e = measure_some rule units d word u h e

abbrev pub plain_size : Size → Value
plain_size s = measure s.value (size_unit_name s.unit)

pub size_some : (legacy : Bool) (s : Size) → IsSize s → size_in legacy (plain_size s) ≡ Ok s
unfolding size_in
size_some legacy s h = rw (measured_some legacy DimensionUnit size_units s.value (size_unit_name s.unit) s.unit h (size_found s.unit)) refl

abbrev pub plain_time : Time → Value
plain_time t = measure t.value (time_unit_name t.unit)

pub time_some : (legacy : Bool) (t : Time) → IsTime t → time_in legacy (plain_time t) ≡ Ok t
unfolding time_in
time_some legacy t h = rw (measured_some legacy DurationUnit time_units t.value (time_unit_name t.unit) t.unit h (time_found t.unit)) refl

-- curves

abbrev pub plain_curve : Curve → Value
plain_curve c = array (number c.x1 ∷ number c.y1 ∷ number c.x2 ∷ number c.y2 ∷ [])

four_some : (c : Curve) → IsCurve c → four_numbers (plain_curve c) ≡ Ok c
unfolding four_numbers items_of_length items_in item
four_some c h = rw (number_some c.x1 h.x1.exact, number_some c.y1 h.y1, number_some c.x2 h.x2.exact, number_some c.y2 h.y2) refl

pub curve_some : (c : Curve) → IsCurve c → curve_in (plain_curve c) ≡ Ok c
unfolding curve_in ranged_curve
curve_some c h = rw (four_some c h, ranged_some BezierRange share c.x1 (share_holds c.x1 h.x1.part), ranged_some BezierRange share c.x2 (share_holds c.x2 h.x2.part)) refl

-- font families and weights

text_some : (t : List ℕ) → ⊤ → text_in (plain_string t) ≡ Ok t
unfolding text_in
text_some t h = refl

any_texts : (ts : List (List ℕ)) → AllByRecursion (λ t. ⊤) ts
any_texts [] = tt
any_texts (t ∷ ts) = (tt, any_texts ts)

abbrev pub plain_families : List (List ℕ) → Value
plain_families ts = array (map plain_string ts)

pub families_some : (ts : List (List ℕ)) → IsFamilies ts → families_in (plain_families ts) ≡ Ok ts
unfolding families_in
families_some ts n = some_some text_in (λ t. ⊤) plain_string text_some ts n (any_texts ts)

pub weight_some : (d : Decimal) → IsWeight d → weight_in (number d) ≡ Ok d
unfolding weight_in weight_of_number
weight_some d h = rw (number_some d h.exact) (ranged_some WeightRange (Within 1 1000) d h.within)

-- colours

abbrev plain_component : Option Decimal → Value
plain_component None = plain_string (codes "none")
plain_component (Some d) = number d

component_some : (range : Range) (o : Option Decimal) → IfSome o (IsInRange range) → component_in (plain_component o) ≡ Ok o
unfolding component_in component_of_number
component_some range None h = refl
component_some range (Some d) h = rw (number_some d h.exact) refl

component_holds : (range : Range) (o : Option Decimal) → IfSome o (IsInRange range) → ranged_component range o ≡ Ok o
unfolding ranged_component
component_holds range None h = refl
component_holds range (Some d) h = rw (ranged_some ColorRange range d h.within) refl

abbrev plain_components : Color → Value
plain_components c = array (plain_component c.first ∷ plain_component c.second ∷ plain_component c.third ∷ [])

components_some : (c : Color) → IsColor c → components_in c.space (plain_components c) ≡ Ok (record { first = c.first; second = c.second; third = c.third })
unfolding components_in three_components ranged_components items_of_length items_in item
components_some c h =
    rw (component_some (ranges_of c.space).first c.first h.first, component_some (ranges_of c.space).second c.second h.second, component_some (ranges_of c.space).third c.third h.third)
    (rw (component_holds (ranges_of c.space).first c.first h.first, component_holds (ranges_of c.space).second c.second h.second, component_holds (ranges_of c.space).third c.third h.third) refl)

alpha_some : (d : Decimal) → IsShare d → alpha_in (number d) ≡ Ok d
unfolding alpha_in
alpha_some d h = rw (number_some d h.exact) (ranged_some ColorAlpha share d (share_holds d h.part))

hex_digit_is : (b : ℕ) → is_hex_digit b ≡ true → is_ascii_hexdigit b ≡ true
hex_digit_is b e = grind arith

hex_digit_low : (b : ℕ) → is_hex_digit b ≡ true → to_ascii_lowercase b ≡ b
hex_digit_low b e = grind arith

all_hex : (ds : List ℕ) → list_all is_hex_digit ds ≡ true → list_all is_ascii_hexdigit ds ≡ true
all_hex [] e = refl
all_hex (d ∷ ds) e = both_true (is_ascii_hexdigit d) (list_all is_ascii_hexdigit ds) (hex_digit_is d (and_left (is_hex_digit d) (list_all is_hex_digit ds) e)) (all_hex ds (and_right (is_hex_digit d) (list_all is_hex_digit ds) e))

all_low : (ds : List ℕ) → list_all is_hex_digit ds ≡ true → map to_ascii_lowercase ds ≡ ds
all_low [] e = refl
all_low (d ∷ ds) e = rw (hex_digit_low d (and_left (is_hex_digit d) (list_all is_hex_digit ds) e), all_low ds (and_right (is_hex_digit d) (list_all is_hex_digit ds) e)) refl

hex_some : (ds : List ℕ) → IsHex ds → hex_in (plain_string (35 ∷ ds)) ≡ Ok (Some ds)
unfolding hex_in text_in
hex_some ds h = rw (h.six, all_hex ds h.lower, all_low ds h.lower) refl

abbrev hex_entries : Option (List ℕ) → List ValueEntry
hex_entries None = []
hex_entries (Some ds) = entry (codes "hex") (plain_string (35 ∷ ds)) ∷ []

abbrev pub plain_color : Color → Value
plain_color c = object (entry (codes "colorSpace") (plain_string (space_name c.space)) ∷ entry (codes "components") (plain_components c) ∷ entry (codes "alpha") (number c.alpha) ∷ hex_entries c.hex)

abbrev color_of : Space → Components → Decimal → Option (List ℕ) → Color
color_of space cs alpha hex = record { space = space; first = cs.first; second = cs.second; third = cs.third; alpha = alpha; hex = hex }

color_by : (space : Space) (cs : Components) (alpha : Decimal) (hex : Option (List ℕ)) → IsColor (color_of space cs alpha hex) → color_in_object (plain_color (color_of space cs alpha hex)) ≡ Ok (color_of space cs alpha hex)
unfolding color_in_object members_in member member_or
color_by space cs alpha None h =
    rw (word_some ColorSpace spaces (space_name space) space (space_found space), components_some (color_of space cs alpha None) h, alpha_some alpha h.alpha) refl
color_by space cs alpha (Some ds) h =
    rw (word_some ColorSpace spaces (space_name space) space (space_found space), components_some (color_of space cs alpha (Some ds)) h, alpha_some alpha h.alpha, hex_some ds h.hex) refl

object_some : (c : Color) → IsColor c → color_in_object (plain_color c) ≡ Ok c
object_some c h = color_by c.space (record { first = c.first; second = c.second; third = c.third }) c.alpha c.hex h

pub color_some : (legacy : Bool) (c : Color) → IsColor c → color_in legacy (plain_color c) ≡ Ok c
unfolding color_in
color_some true c h = object_some c h
color_some false c h = object_some c h

-- values

pub values_some : (legacy : Bool) (s : Simple) → IsSimple s → (v : Value) × (simple_value legacy (kind_of s) v ≡ Ok s)
unfolding simple_value
values_some legacy (simple.Color c) h = (plain_color c, rw (color_some legacy c h) refl)
values_some legacy (simple.Dimension s) h = (plain_size s, rw (size_some legacy s h) refl)
values_some legacy (simple.FontFamily ts) h = (plain_families ts, rw (families_some ts h) refl)
values_some legacy (simple.FontWeight d) h = (number d, rw (weight_some d h) refl)
values_some legacy (simple.Duration t) h = (plain_time t, rw (time_some legacy t h) refl)
values_some legacy (simple.CubicBezier c) h = (plain_curve c, rw (curve_some c h) refl)
values_some legacy (simple.Number d) h = (number d, rw (number_some d h) refl)
