-- What typed values keep.
use Rattle.std.proofs.Common.{◌≡◌, ◌≢◌, ℕ, ◌+◌, ◌<◌, ◌≤◌, ◌^◌, Bool, true, false, ◌&&◌, ◌==◌, cond, List, [], ◌∷◌, map, length, take, codes, pos, Option, Some, None, Ok, refl, ap, sym, subst, ◌∙◌, arith, inl, inr}
use Rattle.std.specs.Prelude.{IfSome, nat_lt}
use Rattle.std.specs.Char.{is_ascii_hexdigit, to_ascii_lowercase}
use Rattle.std.specs.Fmt.{decimal}
use Rattle.std.specs.List.{list_all}
use Rattle.std.specs.Ordering.{is_ge, is_le}
use Rattle.std.specs.declared.cmp.Ordering.{Ordering}
use Rattle.std.specs.declared.cmp.Ordering.TheVariants.{Less, Equal, Greater}
use Rattle.std.proofs.lemmas.Bool.Decides.{nat_tests}
use Rattle.std.proofs.lemmas.List.{length-take-le}
use Rattle.json_span.specs.Plain.{plain_string_in, plain_number_in}
use Rattle.json_span.specs.PlainView.{Value}
use Rattle.dec_fix.specs.Decimal.{Decimal, IsExact}
use Rattle.dec_fix.specs.Arithmetic.{IsFromZeroToOne, order_with, whole_decimal, byte_decimal}
use Rattle.dec_fix.specs.Reading.{number_of}
use Rattle.dec_fix.proofs.ReadingBack.{read_exact}
use Rattle.dec_fix.proofs.BytesAreParts.{byte_exact, byte_part}
use Rattle.name_path.specs.declared.kind.Kind.{Kind}
use Rattle.name_path.specs.declared.kind.Kind.TheVariants as kind
use Rattle.type_rules.specs.declared.fault.ValueRule.{ValueRule}
use Rattle.type_rules.specs.declared.fault.ValueRule.TheVariants.{ValueShape, NumberWide, DimensionUnit, DurationUnit, BezierRange, WeightRange, WeightWord, ColorSpace, ColorRange, ColorAlpha, ColorHex, LegacyText}
use Rattle.type_rules.specs.declared.range.Range.{Range}
use Rattle.type_rules.specs.declared.range.Range.TheVariants.{Within}
use Rattle.type_rules.specs.declared.space.Ranges.{Ranges}
use Rattle.type_rules.specs.declared.space.Space.{Space}
use Rattle.type_rules.specs.declared.color.Color.{Color}
use Rattle.type_rules.specs.declared.components.Components.{Components}
use Rattle.type_rules.specs.declared.size.Size.{Size}
use Rattle.type_rules.specs.declared.time.Time.{Time}
use Rattle.type_rules.specs.declared.curve.Curve.{Curve}
use Rattle.type_rules.specs.declared.simple.Simple.{Simple}
use Rattle.type_rules.specs.declared.simple.Simple.TheVariants as simple
use Rattle.type_rules.specs.Checked.{Checked, broken, or_broken, under}
use Rattle.type_rules.specs.Forms.{number_in, text_in, members_in, if_text, items_of_length, member, member_or, item, some_in}
use Rattle.type_rules.specs.Ranges.{holds, ranged, share, ranges_of}
use Rattle.type_rules.specs.Words.{meaning, word_in, size_units, time_units, weights, spaces}
use Rattle.type_rules.specs.Legacy.{HasDigits, byte_at, color_of, legacy_text_in, split_measure, measure_of_text, legacy_color, color_of_text}
use Rattle.type_rules.specs.Value.{size_in, time_in, four_numbers, ranged_curve, curve_in, measure_in_object, measure_in, families_in, weight_of_word, weight_of_number, weight_in, component_of_word, component_of_number, component_in, three_components, ranged_component, ranged_components, components_in, alpha_in, hex_digits, hex_in, color_in_object, color_in, simple_value}
use Rattle.type_rules.specs.Sound.{kind_of, IsInRange, IsShare, IsHex, is_hex_digit, IsColor, IsSize, IsTime, IsFamilies, IsWeight, IsCurve, IsSimple}
use Rattle.type_rules.proofs.Keeping.{made, ok_is, found, from_some, from_part, member_keeps, item_keeps, member_or_keeps, some_is_there}
use Rattle.type_rules.proofs.WordFacts.{all_meanings, and_left, and_right}
use Rattle.type_rules.proofs.Somes.{share_holds}
use Rattle.type_rules.proofs.LegacyTexts.{byte_small, all_front, color_spelled}

-- numbers and their ranges

pub numbers_keep : (v : Value) (d : Decimal) → number_in v ≡ Ok d → IsExact d
unfolding number_in
numbers_keep v d e = made (or_broken ValueShape (plain_number_in v)) (λ s. or_broken NumberWide (number_of s)) d e (λ s h k. read_exact s d (from_some NumberWide (number_of s) d k))

by_test : (rule : ValueRule) (b : Bool) (d n : Decimal) → ◌≡◌ {A = Checked Decimal} (cond b (Ok d) (broken rule)) (Ok n) → (d ≡ n) × (b ≡ true)
by_test rule true d n e = (ok_is d n e, refl)
by_test rule false d n e = absurd (let h : ⊥ = cc in h)

in_range : (rule : ValueRule) (range : Range) (d n : Decimal) → IsExact d → ranged rule range d ≡ Ok n → IsInRange range n
unfolding ranged
in_range rule range d n x e =
    let P : Decimal → Type 0 = λ z. IsInRange range z in
    let t = by_test rule (holds range d) d n e in
    subst P t.0 (record { exact = x; within = t.1 })

not_less : (o : Ordering) → is_ge o ≡ true → o ≢ Less
not_less Less t e = cc
not_less Equal t e = cc
not_less Greater t e = cc

not_greater : (o : Ordering) → is_le o ≡ true → o ≢ Greater
not_greater Less t e = cc
not_greater Equal t e = cc
not_greater Greater t e = cc

pub shares_are_parts : (d : Decimal) → holds share d ≡ true → IsFromZeroToOne d
shares_are_parts d t = record {
  low = not_less (order_with d 0) (and_left (is_ge (order_with d 0)) (is_le (order_with d 1)) t);
  high = not_greater (order_with d 1) (and_right (is_ge (order_with d 0)) (is_le (order_with d 1)) t);
}

is_share : (d : Decimal) → IsInRange share d → IsShare d
is_share d h = record { exact = h.exact; part = shares_are_parts d h.within }

-- lengths and durations

objects_keep : {U : Type 0} (rule : ValueRule) (units : List (List ℕ × U)) (v : Value) (m : Decimal × U) → measure_in_object rule units v ≡ Ok m → IsExact m.0
unfolding measure_in_object
objects_keep {U} rule units v m e =
    made (members_in v) _ m e (λ es h e2.
    made (member number_in (codes "value") es) _ m e2 (λ value has e3.
    made (member (word_in rule units) (codes "unit") es) _ m e3 (λ unit is e4.
    let P : Decimal × U → Type 0 = λ z. IsExact z.0 in
    found P (value, unit) m e4 (member_keeps number_in IsExact numbers_keep (codes "value") es value has))))

texts_keep : {U : Type 0} (units : List (List ℕ × U)) (text : List ℕ) (m : Decimal × U) → measure_of_text units text ≡ Ok m → IsExact m.0
unfolding measure_of_text
texts_keep {U} units text m e =
    made (or_broken LegacyText (split_measure units text)) _ m e (λ parts h e2.
    made (or_broken NumberWide (number_of parts.0)) _ m e2 (λ value k e3.
    let P : Decimal × U → Type 0 = λ z. IsExact z.0 in
    found P (value, parts.1) m e3 (read_exact parts.0 value (from_some NumberWide (number_of parts.0) value k))))

measures_by : {U : Type 0} (t : Option (List ℕ)) (rule : ValueRule) (units : List (List ℕ × U)) (v : Value) (m : Decimal × U) → if_text t (measure_of_text units) (measure_in_object rule units v) ≡ Ok m → IsExact m.0
measures_by (Some text) rule units v m e = texts_keep units text m e
measures_by None rule units v m e = objects_keep rule units v m e

measures_keep : {U : Type 0} (legacy : Bool) (rule : ValueRule) (units : List (List ℕ × U)) (v : Value) (m : Decimal × U) → measure_in legacy rule units v ≡ Ok m → IsExact m.0
unfolding measure_in
measures_keep legacy rule units v m e = measures_by (legacy_text_in legacy v) rule units v m e

pub sizes_keep : (legacy : Bool) (v : Value) (s : Size) → size_in legacy v ≡ Ok s → IsSize s
unfolding size_in
sizes_keep legacy v s e = made (measure_in legacy DimensionUnit size_units v) _ s e (λ m h e2. found IsSize (record { value = m.0; unit = m.1 }) s e2 (measures_keep legacy DimensionUnit size_units v m h))

pub times_keep : (legacy : Bool) (v : Value) (t : Time) → time_in legacy v ≡ Ok t → IsTime t
unfolding time_in
times_keep legacy v t e = made (measure_in legacy DurationUnit time_units v) _ t e (λ m h e2. found IsTime (record { value = m.0; unit = m.1 }) t e2 (measures_keep legacy DurationUnit time_units v m h))

-- curves

record AreExact (c : Curve) : Type 0 where
  x1 : IsExact c.x1
  y1 : IsExact c.y1
  x2 : IsExact c.x2
  y2 : IsExact c.y2

exact_item : (i : ℕ) (vs : List Value) (d : Decimal) → item number_in i vs ≡ Ok d → IsExact d
exact_item = item_keeps number_in IsExact numbers_keep

four_exact : (v : Value) (c : Curve) → four_numbers v ≡ Ok c → AreExact c
unfolding four_numbers
four_exact v c e =
    made (items_of_length 4 v) _ c e (λ vs h e1.
    made (item number_in 0 vs) _ c e1 (λ x1 a e2.
    made (item number_in 1 vs) _ c e2 (λ y1 b e3.
    made (item number_in 2 vs) _ c e3 (λ x2 x e4.
    made (item number_in 3 vs) _ c e4 (λ y2 y e5.
    found AreExact (record { x1 = x1; y1 = y1; x2 = x2; y2 = y2 }) c e5 (record { x1 = exact_item 0 vs x1 a; y1 = exact_item 1 vs y1 b; x2 = exact_item 2 vs x2 x; y2 = exact_item 3 vs y2 y }))))))

share_at : (rule : ValueRule) (step : List ℕ) (d n : Decimal) → IsExact d → under step (ranged rule share d) ≡ Ok n → IsShare n
share_at rule step d n x e = is_share n (in_range rule share d n x (from_part step (ranged rule share d) n e))

ranged_keeps : (c k : Curve) → AreExact c → ranged_curve c ≡ Ok k → IsCurve k
unfolding ranged_curve
ranged_keeps c k h e =
    made (under (decimal 0) (ranged BezierRange share c.x1)) _ k e (λ x1 a e2.
    made (under (decimal 2) (ranged BezierRange share c.x2)) _ k e2 (λ x2 b e3.
    found IsCurve (record { x1 = x1; y1 = c.y1; x2 = x2; y2 = c.y2 }) k e3
    (record { x1 = share_at BezierRange (decimal 0) c.x1 x1 h.x1 a; y1 = h.y1; x2 = share_at BezierRange (decimal 2) c.x2 x2 h.x2 b; y2 = h.y2 })))

pub curves_keep : (v : Value) (c : Curve) → curve_in v ≡ Ok c → IsCurve c
unfolding curve_in
curves_keep v c e = made (four_numbers v) _ c e (λ k h e2. ranged_keeps k c (four_exact v k h) e2)

-- font families

families_by : (o : Option (List ℕ)) (v : Value) (fs : List (List ℕ)) → if_text o (λ family. Ok (family ∷ [])) (some_in text_in v) ≡ Ok fs → IsFamilies fs
families_by (Some family) v fs e = found IsFamilies (family ∷ []) fs e (λ n. cc)
families_by None v fs e = some_is_there text_in v fs e

pub families_keep : (v : Value) (fs : List (List ℕ)) → families_in v ≡ Ok fs → IsFamilies fs
unfolding families_in
families_keep v fs e = families_by (plain_string_in v) v fs e

-- font weights

abbrev weight_test : ℕ → Bool
weight_test n = holds (Within 1 1000) (whole_decimal (pos n)) && nat_lt n (10 ^ 30)

whole_weight : (n : ℕ) → weight_test n ≡ true → IsWeight (whole_decimal (pos n))
whole_weight n t = record {
  exact = record { size = (let h : nat_lt n (10 ^ 30) ≡ true = and_right (holds (Within 1 1000) (whole_decimal (pos n))) _ t in grind (arith, nat_tests)); places = omega arith; short = inl refl };
  within = and_left (holds (Within 1 1000) (whole_decimal (pos n))) (nat_lt n (10 ^ 30)) t;
}

word_keeps : (word : List ℕ) (d : Decimal) → weight_of_word word ≡ Ok d → IsWeight d
unfolding weight_of_word
word_keeps word d e =
    made (or_broken WeightWord (meaning weights word)) _ d e (λ n h e2.
    found IsWeight (whole_decimal (pos n)) d e2 (whole_weight n (all_meanings weight_test weights word n refl (from_some WeightWord (meaning weights word) n h))))

number_keeps : (v : Value) (d : Decimal) → weight_of_number v ≡ Ok d → IsWeight d
unfolding weight_of_number
number_keeps v d e = made (number_in v) _ d e (λ n h e2. in_range WeightRange (Within 1 1000) n d (numbers_keep v n h) e2)

weights_by : (o : Option (List ℕ)) (v : Value) (d : Decimal) → if_text o weight_of_word (weight_of_number v) ≡ Ok d → IsWeight d
weights_by (Some word) v d e = word_keeps word d e
weights_by None v d e = number_keeps v d e

pub weights_keep : (v : Value) (d : Decimal) → weight_in v ≡ Ok d → IsWeight d
unfolding weight_in
weights_keep v d e = weights_by (plain_string_in v) v d e

-- components of colours

abbrev MayBeExact : Option Decimal → Type 0
MayBeExact o = IfSome o IsExact

none_keeps : (b : Bool) (o : Option Decimal) → ◌≡◌ {A = Checked (Option Decimal)} (cond b (Ok None) (broken ValueShape)) (Ok o) → MayBeExact o
none_keeps true o e = found MayBeExact None o e tt
none_keeps false o e = absurd (let h : ⊥ = cc in h)

component_by : (t : Option (List ℕ)) (v : Value) (o : Option Decimal) → if_text t component_of_word (component_of_number v) ≡ Ok o → MayBeExact o
unfolding component_of_number
component_by (Some word) v o e = none_keeps _ o e
component_by None v o e = made (number_in v) _ o e (λ n h e2. found MayBeExact (Some n) o e2 (numbers_keep v n h))

component_keeps : (v : Value) (o : Option Decimal) → component_in v ≡ Ok o → MayBeExact o
unfolding component_in
component_keeps v o e = component_by (plain_string_in v) v o e

record MayBeAllExact (cs : Components) : Type 0 where
  first : MayBeExact cs.first
  second : MayBeExact cs.second
  third : MayBeExact cs.third

exact_component : (i : ℕ) (vs : List Value) (o : Option Decimal) → item component_in i vs ≡ Ok o → MayBeExact o
exact_component = item_keeps component_in MayBeExact component_keeps

three_keep : (v : Value) (cs : Components) → three_components v ≡ Ok cs → MayBeAllExact cs
unfolding three_components
three_keep v cs e =
    made (items_of_length 3 v) _ cs e (λ vs h e1.
    made (item component_in 0 vs) _ cs e1 (λ a x e2.
    made (item component_in 1 vs) _ cs e2 (λ b y e3.
    made (item component_in 2 vs) _ cs e3 (λ c z e4.
    found MayBeAllExact (record { first = a; second = b; third = c }) cs e4 (record { first = exact_component 0 vs a x; second = exact_component 1 vs b y; third = exact_component 2 vs c z })))))

ranged_component_keeps : (range : Range) (o p : Option Decimal) → MayBeExact o → ranged_component range o ≡ Ok p → IfSome p (IsInRange range)
unfolding ranged_component
ranged_component_keeps range None p h e = found (λ z. IfSome z (IsInRange range)) None p e tt
ranged_component_keeps range (Some d) p h e =
    made (ranged ColorRange range d) _ p e (λ n k e2.
    found (λ z. IfSome z (IsInRange range)) (Some n) p e2 (in_range ColorRange range d n h k))

ranged_at : (step : List ℕ) (range : Range) (o p : Option Decimal) → MayBeExact o → under step (ranged_component range o) ≡ Ok p → IfSome p (IsInRange range)
ranged_at step range o p h e = ranged_component_keeps range o p h (from_part step (ranged_component range o) p e)

record AreInRanges (ranges : Ranges) (cs : Components) : Type 0 where
  first : IfSome cs.first (IsInRange ranges.first)
  second : IfSome cs.second (IsInRange ranges.second)
  third : IfSome cs.third (IsInRange ranges.third)

ranged_components_keep : (ranges : Ranges) (cs ks : Components) → MayBeAllExact cs → ranged_components ranges cs ≡ Ok ks → AreInRanges ranges ks
unfolding ranged_components
ranged_components_keep ranges cs ks h e =
    made (under (decimal 0) (ranged_component ranges.first cs.first)) _ ks e (λ a x e2.
    made (under (decimal 1) (ranged_component ranges.second cs.second)) _ ks e2 (λ b y e3.
    made (under (decimal 2) (ranged_component ranges.third cs.third)) _ ks e3 (λ c z e4.
    found (AreInRanges ranges) (record { first = a; second = b; third = c }) ks e4
    (record { first = ranged_at (decimal 0) ranges.first cs.first a h.first x; second = ranged_at (decimal 1) ranges.second cs.second b h.second y; third = ranged_at (decimal 2) ranges.third cs.third c h.third z }))))

components_keep : (space : Space) (v : Value) (cs : Components) → components_in space v ≡ Ok cs → AreInRanges (ranges_of space) cs
unfolding components_in
components_keep space v cs e = made (three_components v) _ cs e (λ ks h e2. ranged_components_keep (ranges_of space) ks cs (three_keep v ks h) e2)

-- alpha and hex

alpha_keeps : (v : Value) (d : Decimal) → alpha_in v ≡ Ok d → IsShare d
unfolding alpha_in
alpha_keeps v d e = made (number_in v) _ d e (λ n h e2. is_share d (in_range ColorAlpha share n d (numbers_keep v n h) e2))

one_share : IsShare (whole_decimal (pos 1))
one_share = record {
  exact = record { size = omega arith; places = omega arith; short = inl refl };
  part = shares_are_parts (whole_decimal (pos 1)) refl;
}

lower_digit : (b : ℕ) → is_ascii_hexdigit b ≡ true → is_hex_digit (to_ascii_lowercase b) ≡ true
lower_digit b t = grind (arith, nat_tests)

lower_digits : (bs : List ℕ) → list_all is_ascii_hexdigit bs ≡ true → list_all is_hex_digit (map to_ascii_lowercase bs) ≡ true
lower_digits [] t = refl
lower_digits (b ∷ bs) t =
    ap (λ x. x && list_all is_hex_digit (map to_ascii_lowercase bs)) (lower_digit b (and_left (is_ascii_hexdigit b) (list_all is_ascii_hexdigit bs) t))
    ∙ lower_digits bs (and_right (is_ascii_hexdigit b) (list_all is_ascii_hexdigit bs) t)

length-lower : (bs : List ℕ) → length (map to_ascii_lowercase bs) ≡ length bs
length-lower [] = refl
length-lower (b ∷ bs) = ap (λ n. n) (grind (arith, length-lower bs))

hex_by : (b : Bool) (ds hex : List ℕ) → (b ≡ true → IsHex (map to_ascii_lowercase ds)) → cond b (Some (map to_ascii_lowercase ds)) None ≡ Some hex → IsHex hex
hex_by true ds hex h e = let k : map to_ascii_lowercase ds ≡ hex = cc in subst IsHex k (h refl)
hex_by false ds hex h e = absurd (let k : ⊥ = cc in k)

six_digits : (mark : ℕ) (ds : List ℕ) → ((mark == 35) && ((length ds == 6) && list_all is_ascii_hexdigit ds)) ≡ true → IsHex (map to_ascii_lowercase ds)
six_digits mark ds t =
    let rest = and_right (mark == 35) ((length ds == 6) && list_all is_ascii_hexdigit ds) t in
    let len : (length ds == 6) ≡ true = and_left (length ds == 6) (list_all is_ascii_hexdigit ds) rest in
    record {
      six = length-lower ds ∙ grind (arith, nat_tests);
      lower = lower_digits ds (and_right (length ds == 6) (list_all is_ascii_hexdigit ds) rest);
    }

hex_digits_keep : (text hex : List ℕ) → hex_digits text ≡ Some hex → IsHex hex
hex_digits_keep [] hex e = absurd (let h : ⊥ = cc in h)
hex_digits_keep (mark ∷ ds) hex e = hex_by ((mark == 35) && ((length ds == 6) && list_all is_ascii_hexdigit ds)) ds hex (six_digits mark ds) e

abbrev MayBeHex : Option (List ℕ) → Type 0
MayBeHex o = IfSome o IsHex

hex_keeps : (v : Value) (o : Option (List ℕ)) → hex_in v ≡ Ok o → MayBeHex o
unfolding hex_in
hex_keeps v o e =
    made (text_in v) _ o e (λ text h e2.
    made (or_broken ColorHex (hex_digits text)) _ o e2 (λ ds k e3.
    found MayBeHex (Some ds) o e3 (hex_digits_keep text ds (from_some ColorHex (hex_digits text) ds k))))

-- colours

objects_are_colors : (v : Value) (c : Color) → color_in_object v ≡ Ok c → IsColor c
unfolding color_in_object
objects_are_colors v c e =
    made (members_in v) _ c e (λ es h e1.
    made (member (word_in ColorSpace spaces) (codes "colorSpace") es) _ c e1 (λ space s e2.
    made (member (components_in space) (codes "components") es) _ c e2 (λ cs x e3.
    made (member_or alpha_in (whole_decimal (pos 1)) (codes "alpha") es) _ c e3 (λ alpha a e4.
    made (member_or hex_in None (codes "hex") es) _ c e4 (λ hex d e5.
    found IsColor (record { space = space; first = cs.first; second = cs.second; third = cs.third; alpha = alpha; hex = hex }) c e5
    (let in_ranges = member_keeps (components_in space) (AreInRanges (ranges_of space)) (components_keep space) (codes "components") es cs x in
    record {
      first = in_ranges.first;
      second = in_ranges.second;
      third = in_ranges.third;
      alpha = member_or_keeps alpha_in IsShare alpha_keeps (whole_decimal (pos 1)) (codes "alpha") es alpha one_share a;
      hex = member_or_keeps hex_in MayBeHex hex_keeps None (codes "hex") es hex tt d;
    }))))))

-- a byte that two digits write, as a part of 255
byte_keeps : (i : ℕ) (digits : List ℕ) → i + 1 < length digits → list_all is_ascii_hexdigit digits ≡ true → IsInRange share (byte_decimal (byte_at i digits))
byte_keeps i digits room t =
    let small = byte_small i digits room t in
    record { exact = byte_exact (byte_at i digits) small; within = share_holds (byte_decimal (byte_at i digits)) (byte_part (byte_at i digits) small) }

alpha_by : (eight : Bool) (digits : List ℕ) → (length digits == 8) ≡ eight → list_all is_ascii_hexdigit digits ≡ true → IsShare (cond eight (byte_decimal (byte_at 6 digits)) (whole_decimal (pos 1)))
alpha_by true digits e t = is_share (byte_decimal (byte_at 6 digits)) (byte_keeps 6 digits (grind (arith, nat_tests)) t)
alpha_by false digits e t = one_share

digits_keep : (text digits : List ℕ) → HasDigits text digits → IsColor (color_of digits)
digits_keep text digits h =
    let room : 6 ≤ length digits = elim h.count [ inl e ↦ omega (arith, e) | inr e ↦ omega (arith, e) ] in
    record {
      first = byte_keeps 0 digits (omega (arith, room)) h.hexadecimal;
      second = byte_keeps 2 digits (omega (arith, room)) h.hexadecimal;
      third = byte_keeps 4 digits (omega (arith, room)) h.hexadecimal;
      alpha = alpha_by (length digits == 8) digits refl h.hexadecimal;
      hex = record {
        six = length-lower (take 6 digits) ∙ length-take-le 6 digits room;
        lower = lower_digits (take 6 digits) (all_front is_ascii_hexdigit 6 digits h.hexadecimal);
      };
    }

texts_are_colors : (text : List ℕ) (c : Color) → color_of_text text ≡ Ok c → IsColor c
unfolding color_of_text
texts_are_colors text c e =
    let spelled = color_spelled text c (from_some LegacyText (legacy_color text) c e) in
    subst IsColor (sym spelled.is) (digits_keep text spelled.digits spelled.form)

colors_by : (t : Option (List ℕ)) (v : Value) (c : Color) → if_text t color_of_text (color_in_object v) ≡ Ok c → IsColor c
colors_by (Some text) v c e = texts_are_colors text c e
colors_by None v c e = objects_are_colors v c e

pub colors_keep : (legacy : Bool) (v : Value) (c : Color) → color_in legacy v ≡ Ok c → IsColor c
unfolding color_in
colors_keep legacy v c e = colors_by (legacy_text_in legacy v) v c e

-- values

pub values_keep : (legacy : Bool) (k : Kind) (v : Value) (s : Simple) → simple_value legacy k v ≡ Ok s → (kind_of s ≡ k) × IsSimple s
unfolding simple_value
values_keep legacy kind.Color v s e = made (color_in legacy v) _ s e (λ x h e2. found (λ z. (kind_of z ≡ kind.Color) × IsSimple z) (simple.Color x) s e2 (refl, colors_keep legacy v x h))
values_keep legacy kind.Dimension v s e = made (size_in legacy v) _ s e (λ x h e2. found (λ z. (kind_of z ≡ kind.Dimension) × IsSimple z) (simple.Dimension x) s e2 (refl, sizes_keep legacy v x h))
values_keep legacy kind.FontFamily v s e = made (families_in v) _ s e (λ x h e2. found (λ z. (kind_of z ≡ kind.FontFamily) × IsSimple z) (simple.FontFamily x) s e2 (refl, families_keep v x h))
values_keep legacy kind.FontWeight v s e = made (weight_in v) _ s e (λ x h e2. found (λ z. (kind_of z ≡ kind.FontWeight) × IsSimple z) (simple.FontWeight x) s e2 (refl, weights_keep v x h))
values_keep legacy kind.Duration v s e = made (time_in legacy v) _ s e (λ x h e2. found (λ z. (kind_of z ≡ kind.Duration) × IsSimple z) (simple.Duration x) s e2 (refl, times_keep legacy v x h))
values_keep legacy kind.CubicBezier v s e = made (curve_in v) _ s e (λ x h e2. found (λ z. (kind_of z ≡ kind.CubicBezier) × IsSimple z) (simple.CubicBezier x) s e2 (refl, curves_keep v x h))
values_keep legacy kind.Number v s e = made (number_in v) _ s e (λ x h e2. found (λ z. (kind_of z ≡ kind.Number) × IsSimple z) (simple.Number x) s e2 (refl, numbers_keep v x h))
values_keep legacy kind.StrokeStyle v s e = absurd (let h : ⊥ = cc in h)
values_keep legacy kind.Border v s e = absurd (let h : ⊥ = cc in h)
values_keep legacy kind.Transition v s e = absurd (let h : ⊥ = cc in h)
values_keep legacy kind.Shadow v s e = absurd (let h : ⊥ = cc in h)
values_keep legacy kind.Gradient v s e = absurd (let h : ⊥ = cc in h)
values_keep legacy kind.Typography v s e = absurd (let h : ⊥ = cc in h)
