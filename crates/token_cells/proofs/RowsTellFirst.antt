-- Of an object under a kind with parts, the first broken part in the order of the row is told.
use Rattle.std.proofs.Common.{arith, ◌≡◌, inl, inr, ℕ, ◌+◌, ◌==◌, pos, length, Bool, true, false, List, [], ◌∷◌, ◌++◌, codes, Option, Some, None, Ok, Err, option_map, refl, sym, ap, ◌∙◌, subst}
use Rattle.std.proofs.lemmas.Bool.{eqb-true}
use Rattle.std.specs.Fmt.{decimal}
use Rattle.std.specs.Option.{option_or}
use Rattle.std.specs.Prelude.{◌↔◌, if◌then◌else◌}
use Rattle.dec_fix.specs.Arithmetic.{whole_decimal}
use Rattle.dec_fix.specs.Decimal.{Decimal}
use Rattle.json_span.specs.Plain.{plain_null, plain_boolean, plain_number, plain_string, plain_array, plain_object, plain_string_in, plain_array_in, plain_object_in}
use Rattle.json_span.specs.PlainView.{Value, ValueEntry}
use Rattle.ring.specs.Lists.{In}
use Rattle.type_rules.specs.declared.fault.ValueRule.TheVariants.{ValueShape, DimensionUnit, DurationUnit, BezierRange, ColorSpace, StrokeCap}
use Rattle.type_rules.specs.declared.color.Color.{Color}
use Rattle.type_rules.specs.declared.curve.Curve.{Curve}
use Rattle.type_rules.specs.declared.fault.ValueRule.{ValueRule}
use Rattle.type_rules.specs.declared.space.Space.{Space}
use Rattle.type_rules.specs.Checked.{Break, Checked, broken, outside, under, or_broken, ◌>>=◌}
use Rattle.type_rules.specs.Forms.{named, members_in, items_in, if_text, items_of_length, one_or_more, some_items_in, member, member_if, member_or, item, each, list_in, some_in, number_in, text_in}
use Rattle.type_rules.specs.Legacy.{legacy_text_in, measure_of_text, color_of_text}
use Rattle.type_rules.specs.Ranges.{ranged, ranges_of, share}
use Rattle.type_rules.specs.Words.{word_in, size_units, time_units, spaces}
use Rattle.type_rules.specs.Value.{measure_in_object, measure_in, four_numbers, ranged_curve, component_in, three_components, ranged_component, ranged_components, components_in, components_member, alpha_in, alpha_member, hex_in, hex_member, color_in_object, color_in, size_in, time_in, curve_in, families_in, weight_in}
use Rattle.composite_rules.specs.Words.{caps}
use Rattle.composite_rules.specs.Value.{stroke_of_word, dashes_in, stroke_in, border_in, transition_in, boolean_in, shadow_item_in, if_list, one_item, unless_zero, one_shadow, shadows_in, stop_in, gradient_in, typography_in}
use Rattle.token_cells.specs.ValueRows.{broken_by, RowPart, part, optional_part, size_parts, time_parts, stroke_parts, color_parts, border_parts, transition_parts, shadow_parts, stop_parts, typography_parts, lacks_or, part_break, IsFirstOfRow, TellsFirst, IsFirstOfItems, ItemsTellFirst, SomeItemsTellFirst, IsFirstOf, at_item, curve_breaks, components_breaks, CurvesTellFirst, ComponentsTellFirst, OneShadowTellsFirst, RowsTellFirst}

-- Checks one after another.

then_ : {A B : Type 0} (c : Checked A) (f : A → Checked B) (o : Option Break) → ((x : A) → broken_by (f x) ≡ o) → broken_by (c >>= f) ≡ option_or (broken_by c) o
then_ (Ok x) f o h = h x
then_ (Err b) f o h = refl

under_breaks : {A : Type 0} (name : List ℕ) (c : Checked A) → broken_by (under name c) ≡ option_map (outside name) (broken_by c)
under_breaks name (Ok x) = refl
under_breaks name (Err b) = refl

member_breaks : {A : Type 0} (check : Value → Checked A) (name : List ℕ) (es : List ValueEntry) → broken_by (member check name es) ≡ part_break es (part name check)
unfolding member
member_breaks check name es = go (named name es)
  where
    go : (o : Option Value) → broken_by (or_broken ValueShape o >>= (λ v. under name (check v))) ≡ lacks_or false name (λ v. broken_by (check v)) o
    go None = refl
    go (Some v) = under_breaks name (check v)

optional_breaks : {A : Type 0} (check : Value → Checked A) (absent : A) (name : List ℕ) (es : List ValueEntry) → broken_by (member_or check absent name es) ≡ part_break es (optional_part name check)
unfolding member_or
optional_breaks check absent name es = go (named name es)
  where
    go : (o : Option Value) → broken_by (member_if check absent name o) ≡ lacks_or true name (λ v. broken_by (check v)) o
    go None = refl
    go (Some v) = under_breaks name (check v)

-- the first break of a row
abbrev first_break : List RowPart → List ValueEntry → Option Break
first_break [] es = None
first_break (p ∷ ps) es = option_or (part_break es p) (first_break ps es)

some_same : {A : Type 0} {x y : A} → Some x ≡ Some y → x ≡ y
some_same e = cc

is_none : {A : Type 0} {b : A} → None ≡ Some b → ⊥
is_none e = cc

first_is : (ps : List RowPart) (es : List ValueEntry) (b : Break) → first_break ps es ≡ Some b → IsFirstOfRow ps es b
first_is [] es b e = absurd (is_none e)
first_is (p ∷ ps) es b e = go (part_break es p) refl (first_is ps es b) e
  where
    go : (o : Option Break) → part_break es p ≡ o → (first_break ps es ≡ Some b → IsFirstOfRow ps es b) → option_or o (first_break ps es) ≡ Some b → IsFirstOfRow (p ∷ ps) es b
    go None q later f =
        let r = later f in
        record {
          before = p ∷ r.before;
          first = r.first;
          after = r.after;
          is_row = ap (λ (xs : List RowPart). p ∷ xs) r.is_row;
          sound = λ x i. elim i [ inl same ↦ subst (λ (y : RowPart). part_break es y ≡ None) (sym same) q | inr j ↦ r.sound x j ];
          told = r.told;
        }
    go (Some c) q later f = record { before = []; first = p; after = ps; is_row = refl; sound = λ x i. absurd i; told = q ∙ f }

first_so : (before after : List RowPart) (p : RowPart) (es : List ValueEntry) (b : Break) → ((x : RowPart) → In x before → part_break es x ≡ None) → part_break es p ≡ Some b
    → first_break (before ++ p ∷ after) es ≡ Some b
first_so [] after p es b sound e = ap (λ o. option_or o (first_break after es)) e
first_so (x ∷ xs) after p es b sound e =
    ap (λ o. option_or o (first_break (xs ++ p ∷ after) es)) (sound x (inl refl)) ∙ first_so xs after p es b (λ y i. sound y (inr i)) e

err_is : {A : Type 0} (c : Checked A) (b : Break) → broken_by c ≡ Some b → c ≡ Err b
err_is (Ok x) b e = absurd (is_none e)
err_is (Err a) b e = (let same : a ≡ b = cc in ap Err same)

-- a check that breaks what the row breaks first tells it
tells : {A : Type 0} (c : Checked A) (row : List RowPart) (es : List ValueEntry) (b : Break) → broken_by c ≡ first_break row es → (c ≡ Err b) ↔ IsFirstOfRow row es b
tells c row es b same =
    ((λ e. first_is row es b (sym same ∙ ap broken_by e)), (λ f. err_is c b (same ∙ (ap (λ (ps : List RowPart). first_break ps es) f.is_row ∙ first_so f.before f.after f.first es b f.sound f.told))))

-- the members of an object
members_are : {A : Type 0} (v : Value) (es : List ValueEntry) (f : List ValueEntry → Checked A) → plain_object_in v ≡ Some es → broken_by (members_in v >>= f) ≡ broken_by (f es)
unfolding members_in
members_are v es f e = ap (λ (o : Option (List ValueEntry)). broken_by (or_broken ValueShape o >>= f)) e

-- one more part of a row
next : {A B : Type 0} (check : Value → Checked A) (name : List ℕ) (es : List ValueEntry) (f : A → Checked B) (ps : List RowPart) → ((x : A) → broken_by (f x) ≡ first_break ps es)
    → broken_by (member check name es >>= f) ≡ first_break (part name check ∷ ps) es
next check name es f ps h = then_ (member check name es) f (first_break ps es) h ∙ ap (λ o. option_or o (first_break ps es)) (member_breaks check name es)

next_optional : {A B : Type 0} (check : Value → Checked A) (absent : A) (name : List ℕ) (es : List ValueEntry) (f : A → Checked B) (ps : List RowPart) → ((x : A) → broken_by (f x) ≡ first_break ps es)
    → broken_by (member_or check absent name es >>= f) ≡ first_break (optional_part name check ∷ ps) es
next_optional check absent name es f ps h = then_ (member_or check absent name es) f (first_break ps es) h ∙ ap (λ o. option_or o (first_break ps es)) (optional_breaks check absent name es)

border : TellsFirst border_in border_parts
unfolding border_in
border legacy v es b e =
    tells (border_in legacy v) (border_parts legacy) es b (members_are v es _ e
    ∙ next (color_in legacy) (codes "color") es _ (part (codes "width") (size_in legacy) ∷ part (codes "style") (stroke_in legacy) ∷ [])
    (λ x0. next (size_in legacy) (codes "width") es _ (part (codes "style") (stroke_in legacy) ∷ [])
    (λ x1. next (stroke_in legacy) (codes "style") es _ []
    (λ x2. refl))))

transition : TellsFirst transition_in transition_parts
unfolding transition_in
transition legacy v es b e =
    tells (transition_in legacy v) (transition_parts legacy) es b (members_are v es _ e
    ∙ next (time_in legacy) (codes "duration") es _ (part (codes "delay") (time_in legacy) ∷ part (codes "timingFunction") curve_in ∷ [])
    (λ x0. next (time_in legacy) (codes "delay") es _ (part (codes "timingFunction") curve_in ∷ [])
    (λ x1. next curve_in (codes "timingFunction") es _ []
    (λ x2. refl))))

shadow_row : (legacy : Bool) (v : Value) (es : List ValueEntry) → plain_object_in v ≡ Some es → broken_by (shadow_item_in legacy v) ≡ first_break (shadow_parts legacy) es
unfolding shadow_item_in
shadow_row legacy v es e =
    members_are v es _ e
    ∙ next (color_in legacy) (codes "color") es _ (part (codes "offsetX") (size_in legacy) ∷ part (codes "offsetY") (size_in legacy) ∷ part (codes "blur") (size_in legacy) ∷ part (codes "spread") (size_in legacy) ∷ optional_part (codes "inset") boolean_in ∷ [])
    (λ x0. next (size_in legacy) (codes "offsetX") es _ (part (codes "offsetY") (size_in legacy) ∷ part (codes "blur") (size_in legacy) ∷ part (codes "spread") (size_in legacy) ∷ optional_part (codes "inset") boolean_in ∷ [])
    (λ x1. next (size_in legacy) (codes "offsetY") es _ (part (codes "blur") (size_in legacy) ∷ part (codes "spread") (size_in legacy) ∷ optional_part (codes "inset") boolean_in ∷ [])
    (λ x2. next (size_in legacy) (codes "blur") es _ (part (codes "spread") (size_in legacy) ∷ optional_part (codes "inset") boolean_in ∷ [])
    (λ x3. next (size_in legacy) (codes "spread") es _ (optional_part (codes "inset") boolean_in ∷ [])
    (λ x4. next_optional boolean_in false (codes "inset") es _ []
    (λ x5. refl))))))

shadow : TellsFirst shadow_item_in shadow_parts
shadow legacy v es b e = tells (shadow_item_in legacy v) (shadow_parts legacy) es b (shadow_row legacy v es e)

stop : TellsFirst stop_in stop_parts
unfolding stop_in
stop legacy v es b e =
    tells (stop_in legacy v) (stop_parts legacy) es b (members_are v es _ e
    ∙ next (color_in legacy) (codes "color") es _ (part (codes "position") number_in ∷ [])
    (λ x0. next number_in (codes "position") es _ []
    (λ x1. refl)))

typography : TellsFirst typography_in typography_parts
unfolding typography_in
typography legacy v es b e =
    tells (typography_in legacy v) (typography_parts legacy) es b (members_are v es _ e
    ∙ next families_in (codes "fontFamily") es _ (part (codes "fontSize") (size_in legacy) ∷ part (codes "fontWeight") weight_in ∷ part (codes "letterSpacing") (size_in legacy) ∷ part (codes "lineHeight") number_in ∷ [])
    (λ x0. next (size_in legacy) (codes "fontSize") es _ (part (codes "fontWeight") weight_in ∷ part (codes "letterSpacing") (size_in legacy) ∷ part (codes "lineHeight") number_in ∷ [])
    (λ x1. next weight_in (codes "fontWeight") es _ (part (codes "letterSpacing") (size_in legacy) ∷ part (codes "lineHeight") number_in ∷ [])
    (λ x2. next (size_in legacy) (codes "letterSpacing") es _ (part (codes "lineHeight") number_in ∷ [])
    (λ x3. next number_in (codes "lineHeight") es _ []
    (λ x4. refl))))))

-- Measures, colours and strokes.

no_text : (v : Value) (es : List ValueEntry) → plain_object_in v ≡ Some es → plain_string_in v ≡ None
no_text plain_null es e = refl
no_text (plain_boolean b) es e = refl
no_text (plain_number k) es e = refl
no_text (plain_string s) es e = cc
no_text (plain_array vs) es e = refl
no_text (plain_object ms) es e = refl

no_legacy : (legacy : Bool) (v : Value) (es : List ValueEntry) → plain_object_in v ≡ Some es → legacy_text_in legacy v ≡ None
no_legacy true v es e = no_text v es e
no_legacy false v es e = refl

-- a check that is followed by none
alone : {A B : Type 0} (c : Checked A) (f : A → B) → broken_by (c >>= (λ x. Ok (f x))) ≡ broken_by c
alone (Ok x) f = refl
alone (Err b) f = refl

measures : {U : Type 0} (legacy : Bool) (rule : ValueRule) (units : List (List ℕ × U)) (v : Value) (es : List ValueEntry) → plain_object_in v ≡ Some es
    → broken_by (measure_in legacy rule units v) ≡ first_break (part (codes "value") number_in ∷ part (codes "unit") (word_in rule units) ∷ []) es
unfolding measure_in measure_in_object
measures legacy rule units v es e =
    ap (λ o. broken_by (if_text o (measure_of_text units) (measure_in_object rule units v))) (no_legacy legacy v es e) ∙ (members_are v es _ e
    ∙ next number_in (codes "value") es _ (part (codes "unit") (word_in rule units) ∷ [])
    (λ x. next (word_in rule units) (codes "unit") es _ []
    (λ y. refl)))

size : TellsFirst size_in (λ legacy. size_parts)
unfolding size_in
size legacy v es b e =
    tells (size_in legacy v) size_parts es b (alone (measure_in legacy DimensionUnit size_units v) (λ m. record { value = m.0; unit = m.1 }) ∙ measures legacy DimensionUnit size_units v es e)

time : TellsFirst time_in (λ legacy. time_parts)
unfolding time_in
time legacy v es b e =
    tells (time_in legacy v) time_parts es b (alone (measure_in legacy DurationUnit time_units v) (λ m. record { value = m.0; unit = m.1 }) ∙ measures legacy DurationUnit time_units v es e)

stroke : TellsFirst stroke_in stroke_parts
unfolding stroke_in dashes_in
stroke legacy v es b e =
    tells (stroke_in legacy v) (stroke_parts legacy) es b (ap (λ o. broken_by (if_text o stroke_of_word (dashes_in legacy v))) (no_text v es e) ∙ (members_are v es _ e
    ∙ next (list_in (size_in legacy)) (codes "dashArray") es _ (part (codes "lineCap") (word_in StrokeCap caps) ∷ [])
    (λ x. next (word_in StrokeCap caps) (codes "lineCap") es _ []
    (λ y. refl))))

abbrev space_member : List ValueEntry → Checked Space
space_member es = member (word_in ColorSpace spaces) (codes "colorSpace") es

-- what is checked of a colour behind its space
abbrev behind_space : List ValueEntry → Space → Checked Color
behind_space es space = do
  cs ← components_member space es
  alpha ← alpha_member es
  hex ← hex_member es
  Ok (record { space = space; first = cs.first; second = cs.second; third = cs.third; alpha = alpha; hex = hex })

colors : (legacy : Bool) (v : Value) (es : List ValueEntry) → plain_object_in v ≡ Some es → broken_by (color_in legacy v) ≡ broken_by (space_member es >>= behind_space es)
unfolding color_in color_in_object
colors legacy v es e = ap (λ o. broken_by (if_text o color_of_text (color_in_object v))) (no_legacy legacy v es e) ∙ members_are v es _ e

color_space : (legacy : Bool) (v : Value) (es : List ValueEntry) (b : Break) → plain_object_in v ≡ Some es → space_member es ≡ Err b → color_in legacy v ≡ Err b
color_space legacy v es b e f = err_is (color_in legacy v) b (colors legacy v es e ∙ ap (λ c. broken_by (c >>= behind_space es)) f)

color_others : (legacy : Bool) (v : Value) (es : List ValueEntry) (space : Space) (b : Break) → plain_object_in v ≡ Some es → space_member es ≡ Ok space
    → (color_in legacy v ≡ Err b) ↔ IsFirstOfRow (color_parts space) es b
color_others legacy v es space b e f =
    tells (color_in legacy v) (color_parts space) es b (colors legacy v es e ∙ (ap (λ c. broken_by (c >>= behind_space es)) f
    ∙ next (components_in space) (codes "components") es _ (optional_part (codes "alpha") alpha_in ∷ optional_part (codes "hex") hex_in ∷ [])
    (λ x. next_optional alpha_in (whole_decimal (pos 1)) (codes "alpha") es _ (optional_part (codes "hex") hex_in ∷ [])
    (λ y. next_optional hex_in None (codes "hex") es _ []
    (λ z. refl)))))

-- Items.

-- the same of items of which the first is the i-th
record FirstFrom (breaks : Value → Option Break) (i : ℕ) (vs : List Value) (b : Break) : Type 0 where
  before : List Value
  first : Value
  after : List Value
  are : vs ≡ before ++ first ∷ after
  sound : (v : Value) → In v before → breaks v ≡ None
  inner : Break
  breaks_so : breaks first ≡ Some inner
  told : b ≡ outside (decimal (i + length before)) inner

module _ {A : Type 0} (check : Value → Checked A) where
  abbrev item_break : Value → Option Break
  item_break v = broken_by (check v)

  abbrev items_break : ℕ → List Value → Option Break
  items_break i vs = broken_by (each check i vs)

  one_more : (i : ℕ) (v : Value) (vs : List Value) → items_break i (v ∷ vs) ≡ option_or (option_map (outside (decimal i)) (item_break v)) (items_break (i + 1) vs)
  one_more i v vs =
      then_ (under (decimal i) (check v)) (λ x. each check (i + 1) vs >>= (λ xs. Ok (x ∷ xs))) (items_break (i + 1) vs) (λ x. alone (each check (i + 1) vs) (λ xs. x ∷ xs))
      ∙ ap (λ o. option_or o (items_break (i + 1) vs)) (under_breaks (decimal i) (check v))

  first_from : (i : ℕ) (vs : List Value) (b : Break) → items_break i vs ≡ Some b → FirstFrom item_break i vs b
  first_from i [] b e = absurd (is_none e)
  first_from i (v ∷ vs) b e = go (item_break v) refl (first_from (i + 1) vs b) (sym (one_more i v vs) ∙ e)
    where
      go : (o : Option Break) → item_break v ≡ o → (items_break (i + 1) vs ≡ Some b → FirstFrom item_break (i + 1) vs b)
          → option_or (option_map (outside (decimal i)) o) (items_break (i + 1) vs) ≡ Some b → FirstFrom item_break i (v ∷ vs) b
      go None q later f =
          let r = later f in
          let place : (i + 1) + length r.before ≡ i + length (v ∷ r.before) = omega arith in
          record {
            before = v ∷ r.before;
            first = r.first;
            after = r.after;
            are = ap (λ (xs : List Value). v ∷ xs) r.are;
            sound = λ x j. elim j [ inl same ↦ subst (λ (y : Value). item_break y ≡ None) (sym same) q | inr k ↦ r.sound x k ];
            inner = r.inner;
            breaks_so = r.breaks_so;
            told = r.told ∙ ap (λ k. outside (decimal k) r.inner) place;
          }
      go (Some c) q later f =
          let place : i ≡ i + 0 = omega arith in
          record {
            before = [];
            first = v;
            after = vs;
            are = refl;
            sound = λ x j. absurd j;
            inner = c;
            breaks_so = q;
            told = sym (some_same f) ∙ ap (λ k. outside (decimal k) c) place;
          }

  so_from : (i : ℕ) (before after : List Value) (v : Value) (c : Break) → ((x : Value) → In x before → item_break x ≡ None) → item_break v ≡ Some c
      → items_break i (before ++ v ∷ after) ≡ Some (outside (decimal (i + length before)) c)
  so_from i [] after v c sound q =
      let place : i ≡ i + 0 = omega arith in
      one_more i v after ∙ (ap (λ o. option_or (option_map (outside (decimal i)) o) (items_break (i + 1) after)) q ∙ ap (λ k. Some (outside (decimal k) c)) place)
  so_from i (x ∷ xs) after v c sound q =
      let place : (i + 1) + length xs ≡ i + length (x ∷ xs) = omega arith in
      one_more i x (xs ++ v ∷ after)
      ∙ (ap (λ o. option_or (option_map (outside (decimal i)) o) (items_break (i + 1) (xs ++ v ∷ after))) (sound x (inl refl))
      ∙ (so_from (i + 1) xs after v c (λ y j. sound y (inr j)) q ∙ ap (λ k. Some (outside (decimal k) c)) place))

  -- a check that breaks what the items break first tells it
  items_tell : {B : Type 0} (c : Checked B) (vs : List Value) (b : Break) → broken_by c ≡ items_break 0 vs → (c ≡ Err b) ↔ IsFirstOfItems item_break vs b
  items_tell c vs b same = (
    (λ e. from_0 (first_from 0 vs b (sym same ∙ ap broken_by e))),
    (λ f.
        let place : 0 + length f.before ≡ length f.before = omega arith in
        err_is c b
        (same ∙ (ap (items_break 0) f.are ∙ (so_from 0 f.before f.after f.first f.inner f.sound f.breaks_so
        ∙ (ap (λ k. Some (outside (decimal k) f.inner)) place ∙ ap Some (sym f.told)))))),
  )
    where
      from_0 : FirstFrom item_break 0 vs b → IsFirstOfItems item_break vs b
      from_0 r =
          let place : 0 + length r.before ≡ length r.before = omega arith in
          record {
            before = r.before;
            first = r.first;
            after = r.after;
            are = r.are;
            sound = r.sound;
            inner = r.inner;
            breaks_so = r.breaks_so;
            told = r.told ∙ ap (λ k. outside (decimal k) r.inner) place;
          }

  of_list : (v : Value) (vs : List Value) → plain_array_in v ≡ Some vs → broken_by (list_in check v) ≡ items_break 0 vs
  unfolding list_in items_in
  of_list v vs e = ap (λ (o : Option (List Value)). broken_by (or_broken ValueShape o >>= (λ ws. each check 0 ws))) e

  -- what is read of the items of a list of one or more
  abbrev some_of : Option (List Value) → Checked (List A)
  some_of o = (or_broken ValueShape o >>= one_or_more) >>= (λ ws. each check 0 ws)

  of_some : (v : Value) (vs : List Value) → plain_array_in v ≡ Some vs → broken_by (some_in check v) ≡ broken_by (some_of (Some vs))
  unfolding some_in some_items_in items_in
  of_some v vs e = ap (λ (o : Option (List Value)). broken_by (some_of o)) e

  pub list_tells : ItemsTellFirst check (list_in check)
  list_tells v vs b e = items_tell (list_in check v) vs b (of_list v vs e)

  -- a list that breaks what its items do
  some_tells : {B : Type 0} (list : Value → Checked B) → ((v : Value) (vs : List Value) → plain_array_in v ≡ Some vs → broken_by (list v) ≡ broken_by (some_in check v))
      → SomeItemsTellFirst check list
  some_tells list same = record {
    items = λ v w ws b e. items_tell (list v) (w ∷ ws) b (same v (w ∷ ws) e ∙ of_some v (w ∷ ws) e);
    empty = λ v e. err_is (list v) (record { rule = ValueShape; trail = [] }) (same v [] e ∙ of_some v [] e);
  }

-- Lists of parts whose number is fixed.

abbrev first_some : List (Option Break) → Option Break
first_some [] = None
first_some (o ∷ os) = option_or o (first_some os)

first_of : (os : List (Option Break)) (b : Break) → first_some os ≡ Some b → IsFirstOf os b
first_of [] b e = absurd (is_none e)
first_of (None ∷ os) b e =
    let r = first_of os b e in
    record {
      before = None ∷ r.before;
      after = r.after;
      are = ap (λ (xs : List (Option Break)). None ∷ xs) r.are;
      sound = λ x i. elim i [ inl same ↦ same | inr j ↦ r.sound x j ];
    }
first_of (Some c ∷ os) b e = record { before = []; after = os; are = ap (λ (x : Break). Some x ∷ os) (some_same e); sound = λ x i. absurd i }

of_first : (before after : List (Option Break)) (b : Break) → ((x : Option Break) → In x before → x ≡ None) → first_some (before ++ Some b ∷ after) ≡ Some b
of_first [] after b sound = refl
of_first (x ∷ xs) after b sound = ap (λ o. option_or o (first_some (xs ++ Some b ∷ after))) (sound x (inl refl)) ∙ of_first xs after b (λ y i. sound y (inr i))

tells_of : {A : Type 0} (c : Checked A) (os : List (Option Break)) (b : Break) → broken_by c ≡ first_some os → (c ≡ Err b) ↔ IsFirstOf os b
tells_of c os b same =
    ((λ e. first_of os b (sym same ∙ ap broken_by e)), (λ f. err_is c b (same ∙ (ap first_some f.are ∙ of_first f.before f.after b f.sound))))

-- Curves.

abbrev four_of : Checked Decimal → Checked Decimal → Checked Decimal → Checked Decimal → Checked Curve
four_of c1 c2 c3 c4 = do
  x1 ← under (decimal 0) c1
  y1 ← under (decimal 1) c2
  x2 ← under (decimal 2) c3
  y2 ← under (decimal 3) c4
  Ok (record { x1 = x1; y1 = y1; x2 = x2; y2 = y2 })

shares : (r1 r3 : Checked Decimal) (f : Decimal → Decimal → Curve) → broken_by (under (decimal 0) r1 >>= (λ a. under (decimal 2) r3 >>= (λ b. Ok (f a b))))
    ≡ first_some (at_item 0 r1 ∷ at_item 2 r3 ∷ [])
shares (Err b) r3 f = refl
shares (Ok x) (Err b) f = refl
shares (Ok x) (Ok y) f = refl

curve_row : (c1 c2 c3 c4 : Checked Decimal) → broken_by (four_of c1 c2 c3 c4 >>= ranged_curve)
    ≡ first_some (at_item 0 c1 ∷ at_item 1 c2 ∷ at_item 2 c3 ∷ at_item 3 c4 ∷ at_item 0 (c1 >>= ranged BezierRange share) ∷ at_item 2 (c3 >>= ranged BezierRange share) ∷ [])
unfolding ranged_curve
curve_row (Err b) c2 c3 c4 = refl
curve_row (Ok x1) (Err b) c3 c4 = refl
curve_row (Ok x1) (Ok y1) (Err b) c4 = refl
curve_row (Ok x1) (Ok y1) (Ok x2) (Err b) = refl
curve_row (Ok x1) (Ok y1) (Ok x2) (Ok y2) =
    shares (ranged BezierRange share x1) (ranged BezierRange share x2) (λ a b. record { x1 = a; y1 = y1; x2 = b; y2 = y2 })

-- what is read of a list that is to have n items
abbrev of_length : ℕ → Option (List Value) → Checked (List Value)
of_length n o = or_broken ValueShape o >>= (λ vs. if length vs == n then Ok vs else broken ValueShape)

abbrev four_behind : List Value → Checked Curve
four_behind vs = do
  x1 ← item number_in 0 vs
  y1 ← item number_in 1 vs
  x2 ← item number_in 2 vs
  y2 ← item number_in 3 vs
  Ok (record { x1 = x1; y1 = y1; x2 = x2; y2 = y2 })

curve_at : (v : Value) (o : Option (List Value)) → plain_array_in v ≡ o → broken_by (curve_in v) ≡ broken_by ((of_length 4 o >>= four_behind) >>= ranged_curve)
unfolding curve_in four_numbers items_of_length items_in
curve_at v o e = ap (λ (x : Option (List Value)). broken_by ((of_length 4 x >>= four_behind) >>= ranged_curve)) e

four_are : (a b c d : Value) → four_behind (a ∷ b ∷ c ∷ d ∷ []) ≡ four_of (number_in a) (number_in b) (number_in c) (number_in d)
unfolding item
four_are a b c d = refl

-- a list of another length
not_of_length : (n : ℕ) (vs : List Value) → (length vs ≡ n → ⊥) → of_length n (Some vs) ≡ broken ValueShape
not_of_length n vs other = go (length vs == n) refl
  where
    go : (t : Bool) → (length vs == n) ≡ t → (if t then Ok vs else broken ValueShape) ≡ broken ValueShape
    go true q = absurd (other (eqb-true (length vs) n q))
    go false q = refl

curves : CurvesTellFirst
curves = record {
  items = λ v a b c d x e.
      tells_of (curve_in v) (curve_breaks a b c d) x
      (curve_at v _ e ∙ (ap (λ (q : Checked Curve). broken_by (q >>= ranged_curve)) (four_are a b c d) ∙ curve_row (number_in a) (number_in b) (number_in c) (number_in d)));
  other_length = λ v vs e other.
      err_is (curve_in v) (record { rule = ValueShape; trail = [] })
      (curve_at v _ e ∙ ap (λ (q : Checked (List Value)). broken_by ((q >>= four_behind) >>= ranged_curve)) (not_of_length 4 vs other));
}

-- Components.

abbrev three_then : {A : Type 0} → Checked (Option Decimal) → Checked (Option Decimal) → Checked (Option Decimal) → (Option Decimal → Option Decimal → Option Decimal → Checked A) → Checked A
three_then c1 c2 c3 f = under (decimal 0) c1 >>= (λ a. under (decimal 1) c2 >>= (λ b. under (decimal 2) c3 >>= (λ c. f a b c)))

three_row : {A : Type 0} (c1 c2 c3 : Checked (Option Decimal)) (f : Option Decimal → Option Decimal → Option Decimal → A)
    → broken_by (three_then c1 c2 c3 (λ a b c. Ok (f a b c))) ≡ first_some (at_item 0 c1 ∷ at_item 1 c2 ∷ at_item 2 c3 ∷ [])
three_row (Err b) c2 c3 f = refl
three_row (Ok x) (Err b) c3 f = refl
three_row (Ok x) (Ok y) (Err b) f = refl
three_row (Ok x) (Ok y) (Ok z) f = refl

three_after : {A B : Type 0} (c1 c2 c3 : Checked (Option Decimal)) (f : Option Decimal → Option Decimal → Option Decimal → A) (g : A → Checked B)
    → broken_by (three_then c1 c2 c3 (λ a b c. Ok (f a b c)) >>= g) ≡ broken_by (three_then c1 c2 c3 (λ a b c. g (f a b c)))
three_after (Err b) c2 c3 f g = refl
three_after (Ok x) (Err b) c3 f g = refl
three_after (Ok x) (Ok y) (Err b) f g = refl
three_after (Ok x) (Ok y) (Ok z) f g = refl

ranges_row : (space : Space) (x y z : Option Decimal) → broken_by (ranged_components (ranges_of space) (record { first = x; second = y; third = z }))
    ≡ first_some (at_item 0 (ranged_component (ranges_of space).first x) ∷ at_item 1 (ranged_component (ranges_of space).second y) ∷ at_item 2 (ranged_component (ranges_of space).third z) ∷ [])
unfolding ranged_components
ranges_row space x y z = three_row (ranged_component (ranges_of space).first x) (ranged_component (ranges_of space).second y) (ranged_component (ranges_of space).third z) _

components_row : (space : Space) (c1 c2 c3 : Checked (Option Decimal))
    → broken_by (three_then c1 c2 c3 (λ x y z. ranged_components (ranges_of space) (record { first = x; second = y; third = z })))
    ≡ first_some (at_item 0 c1 ∷ at_item 1 c2 ∷ at_item 2 c3 ∷ at_item 0 (c1 >>= ranged_component (ranges_of space).first)
    ∷ at_item 1 (c2 >>= ranged_component (ranges_of space).second) ∷ at_item 2 (c3 >>= ranged_component (ranges_of space).third) ∷ [])
components_row space (Err b) c2 c3 = refl
components_row space (Ok x) (Err b) c3 = refl
components_row space (Ok x) (Ok y) (Err b) = refl
components_row space (Ok x) (Ok y) (Ok z) = ranges_row space x y z

-- what is read of a list, behind its length
list_then : {A B : Type 0} (o : Option (List Value)) (vs : List Value) (f : List Value → Checked A) (g : A → Checked B) → o ≡ Some vs
    → broken_by ((of_length 3 o >>= f) >>= g) ≡ broken_by ((of_length 3 (Some vs) >>= f) >>= g)
list_then o vs f g e = ap (λ (x : Option (List Value)). broken_by ((of_length 3 x >>= f) >>= g)) e

components_are : (space : Space) (v a b c : Value) → plain_array_in v ≡ Some (a ∷ b ∷ c ∷ []) → broken_by (components_in space v)
    ≡ broken_by (three_then (component_in a) (component_in b) (component_in c) (λ x y z. ranged_components (ranges_of space) (record { first = x; second = y; third = z })))
unfolding components_in three_components items_of_length items_in item
components_are space v a b c e =
    list_then (plain_array_in v) (a ∷ b ∷ c ∷ []) _ (ranged_components (ranges_of space)) e
    ∙ three_after (component_in a) (component_in b) (component_in c) _ (ranged_components (ranges_of space))

-- what is broken first breaks what follows
broken_first : {A B C : Type 0} (q : Checked A) (f : A → Checked B) (g : B → Checked C) (b : Break) → q ≡ Err b → broken_by ((q >>= f) >>= g) ≡ Some b
broken_first q f g b e = ap (λ x. broken_by ((x >>= f) >>= g)) e

components_of_other_length : (space : Space) (v : Value) (vs : List Value) → plain_array_in v ≡ Some vs → (length vs ≡ 3 → ⊥)
    → broken_by (components_in space v) ≡ Some (record { rule = ValueShape; trail = [] })
unfolding components_in three_components items_of_length items_in
components_of_other_length space v vs e other =
    list_then (plain_array_in v) vs _ (ranged_components (ranges_of space)) e
    ∙ broken_first (of_length 3 (Some vs)) _ (ranged_components (ranges_of space)) (record { rule = ValueShape; trail = [] }) (not_of_length 3 vs other)

components : ComponentsTellFirst
components = record {
  items = λ space v a b c x e.
      tells_of (components_in space v) (components_breaks space a b c) x
      (components_are space v a b c e ∙ components_row space (component_in a) (component_in b) (component_in c));
  other_length = λ space v vs e other.
      err_is (components_in space v) (record { rule = ValueShape; trail = [] })
      (components_of_other_length space v vs e other);
}

-- Lists under their kinds.

text_is_none : (v : Value) (vs : List Value) → plain_array_in v ≡ Some vs → plain_string_in v ≡ None
text_is_none plain_null vs e = refl
text_is_none (plain_boolean b) vs e = refl
text_is_none (plain_number k) vs e = refl
text_is_none (plain_string s) vs e = cc
text_is_none (plain_array ws) vs e = refl
text_is_none (plain_object ms) vs e = refl

families_are : (v : Value) (vs : List Value) → plain_array_in v ≡ Some vs → broken_by (families_in v) ≡ broken_by (some_in text_in v)
unfolding families_in
families_are v vs e = ap (λ (o : Option (List ℕ)). broken_by (if_text o (λ family. Ok (family ∷ [])) (some_in text_in v))) (text_is_none v vs e)

shadows_are : (legacy : Bool) (v : Value) (vs : List Value) → plain_array_in v ≡ Some vs → broken_by (shadows_in legacy v) ≡ broken_by (some_in (shadow_item_in legacy) v)
unfolding shadows_in
shadows_are legacy v vs e = ap (λ (o : Option (List Value)). broken_by (if_list o (some_in (shadow_item_in legacy) v) (one_shadow legacy v))) e

gradient_are : (legacy : Bool) (v : Value) (vs : List Value) → plain_array_in v ≡ Some vs → broken_by (gradient_in legacy v) ≡ broken_by (some_in (stop_in legacy) v)
unfolding gradient_in
gradient_are legacy v vs e = refl

list_is_none : (v : Value) (es : List ValueEntry) → plain_object_in v ≡ Some es → plain_array_in v ≡ None
list_is_none plain_null es e = refl
list_is_none (plain_boolean b) es e = refl
list_is_none (plain_number k) es e = refl
list_is_none (plain_string s) es e = refl
list_is_none (plain_array ws) es e = cc
list_is_none (plain_object ms) es e = refl

one_is : (legacy : Bool) (v : Value) → broken_by (one_item legacy v) ≡ broken_by (shadow_item_in legacy v)
unfolding one_item
one_is legacy v = alone (shadow_item_in legacy v) (λ x. x ∷ [])

lone_shadow : OneShadowTellsFirst
unfolding shadows_in one_shadow
lone_shadow legacy v es b e none =
    tells (shadows_in legacy v) (shadow_parts legacy) es b
    (ap (λ (o : Option (List Value)). broken_by (if_list o (some_in (shadow_item_in legacy) v) (one_shadow legacy v))) (list_is_none v es e)
    ∙ (members_are v es _ e ∙ (ap (λ (o : Option Value). broken_by (unless_zero o (one_item legacy v))) none
    ∙ (one_is legacy v ∙ shadow_row legacy v es e))))

pub rows_tell_first : RowsTellFirst
rows_tell_first = record {
  size = size;
  time = time;
  curve = curves;
  families = some_tells text_in families_in families_are;
  color = record { space = color_space; others = color_others };
  components = components;
  stroke = stroke;
  dashes = λ legacy. list_tells (size_in legacy);
  border = border;
  transition = transition;
  shadow = shadow;
  one_shadow = lone_shadow;
  shadows = λ legacy. some_tells (shadow_item_in legacy) (shadows_in legacy) (shadows_are legacy);
  stop = stop;
  gradient = λ legacy. some_tells (stop_in legacy) (gradient_in legacy) (gradient_are legacy);
  typography = typography;
}
