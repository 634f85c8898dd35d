-- What stands at a part's steps, and the part.
use Rattle.std.proofs.Common.{◌≡◌, ℕ, ◌+◌, Bool, true, false, cond, List, [], ◌∷◌, map, codes, Option, Some, None, Ok, refl, ap, sym, subst, ◌∙◌, arith}
use Rattle.std.specs.Prelude.{option_and_then, option_map}
use Rattle.std.specs.Fmt.{decimal}
use Rattle.std.specs.List.{AllByRecursion}
use Rattle.std.specs.Str.{bytes_eq}
use Rattle.std.proofs.lemmas.Fmt.{decimal_digit}
use Rattle.json_span.specs.Plain.{plain_null, plain_boolean, plain_number, plain_string, plain_array, plain_object, plains_in, plain_entries_in, plain_array_in, plain_object_in}
use Rattle.json_span.specs.PlainView.{Value, ValueEntry}
use Rattle.dec_fix.specs.Decimal.{Decimal}
use Rattle.name_path.specs.declared.kind.Kind.{Kind}
use Rattle.name_path.specs.declared.kind.Kind.TheVariants as kind
use Rattle.type_rules.specs.declared.fault.ValueRule.TheVariants.{ValueShape}
use Rattle.type_rules.specs.declared.color.Color.{Color}
use Rattle.type_rules.specs.declared.size.Size.{Size}
use Rattle.type_rules.specs.declared.time.Time.{Time}
use Rattle.type_rules.specs.declared.curve.Curve.{Curve}
use Rattle.type_rules.specs.declared.simple.Simple.TheVariants as simple
use Rattle.type_rules.specs.Checked.{Checked, or_broken, under}
use Rattle.type_rules.specs.Forms.{number_in, members_in, some_items_in, named, member, member_or, each, some_in}
use Rattle.type_rules.specs.Words.{meaning}
use Rattle.type_rules.specs.Value.{color_in, size_in, time_in, curve_in, families_in, weight_in, simple_value}
use Rattle.type_rules.specs.Trails.{item_at, child, plain_at}
use Rattle.type_rules.proofs.Keeping.{made, found, from_some, from_part}
use Rattle.type_rules.proofs.Leading.{members_are, some_items_are}
use Rattle.type_rules.proofs.Standing.{some_then, some_is}
use Rattle.type_rules.proofs.WordFacts.{same_text}
use Rattle.composite_rules.specs.declared.stroke.Stroke.{Stroke}
use Rattle.composite_rules.specs.declared.border.Border.{Border}
use Rattle.composite_rules.specs.declared.transition.Transition.{Transition}
use Rattle.composite_rules.specs.declared.shadow.ShadowItem.{ShadowItem}
use Rattle.composite_rules.specs.declared.gradient.ColorStop.{ColorStop}
use Rattle.composite_rules.specs.declared.typography.Typography.{Typography}
use Rattle.composite_rules.specs.declared.typed.Typed.{Typed}
use Rattle.composite_rules.specs.declared.typed.Typed.TheVariants as typed
use Rattle.composite_rules.specs.Value.{stroke_in, border_in, transition_in, boolean_in, shadow_item_in, unless_zero, one_item, one_shadow, if_list, shadows_in, clamped, stop_in, gradient_in, typography_in, simple_in, value_of}
use Rattle.composite_rules.specs.Sound.{kind_of}
use Rattle.composite_rules.specs.Parts.{Row, color_part, size_part, time_part, border_row, transition_row, shadow_row, stop_row, typography_row, only_row, member_row, item_rows, part_at}
use Rattle.composite_rules.proofs.ByKind.{by_kind}
use Rattle.composite_rules.proofs.Kept.{values_keep}

-- simple parts, and styles

color_typed : (legacy : Bool) (w : Value) (x : Color) → color_in legacy w ≡ Ok x → value_of legacy kind.Color w ≡ Ok (color_part x)
unfolding value_of simple_in simple_value
color_typed legacy w x e = rw e refl

size_typed : (legacy : Bool) (w : Value) (x : Size) → size_in legacy w ≡ Ok x → value_of legacy kind.Dimension w ≡ Ok (size_part x)
unfolding value_of simple_in simple_value
size_typed legacy w x e = rw e refl

time_typed : (legacy : Bool) (w : Value) (x : Time) → time_in legacy w ≡ Ok x → value_of legacy kind.Duration w ≡ Ok (time_part x)
unfolding value_of simple_in simple_value
time_typed legacy w x e = rw e refl

curve_typed : (legacy : Bool) (w : Value) (x : Curve) → curve_in w ≡ Ok x → value_of legacy kind.CubicBezier w ≡ Ok (typed.Simple (simple.CubicBezier x))
unfolding value_of simple_in simple_value
curve_typed legacy w x e = rw e refl

families_typed : (legacy : Bool) (w : Value) (x : List (List ℕ)) → families_in w ≡ Ok x → value_of legacy kind.FontFamily w ≡ Ok (typed.Simple (simple.FontFamily x))
unfolding value_of simple_in simple_value
families_typed legacy w x e = rw e refl

weight_typed : (legacy : Bool) (w : Value) (x : Decimal) → weight_in w ≡ Ok x → value_of legacy kind.FontWeight w ≡ Ok (typed.Simple (simple.FontWeight x))
unfolding value_of simple_in simple_value
weight_typed legacy w x e = rw e refl

number_typed : (legacy : Bool) (w : Value) (x : Decimal) → number_in w ≡ Ok x → value_of legacy kind.Number w ≡ Ok (typed.Simple (simple.Number x))
unfolding value_of simple_in simple_value
number_typed legacy w x e = rw e refl

stroke_typed : (legacy : Bool) (w : Value) (x : Stroke) → stroke_in legacy w ≡ Ok x → value_of legacy kind.StrokeStyle w ≡ Ok (typed.StrokeStyle x)
unfolding value_of
stroke_typed legacy w x e = rw e refl

-- rows: what stands under the name of a part has the part as its value

pub record IsTypedIn (legacy : Bool) (es : List ValueEntry) (r : List ℕ × Typed) : Type 0 where
  pub value : Value
  pub stands : named r.0 es ≡ Some value
  pub typed : value_of legacy (kind_of r.1) value ≡ Ok r.1

pub record Rows (legacy : Bool) (v : Value) (row : Row) : Type 0 where
  pub es : List ValueEntry
  pub object : plain_object_in v ≡ Some es
  pub typed : AllByRecursion (IsTypedIn legacy es) row

row_by : (legacy : Bool) (es : List ValueEntry) (r : List ℕ × Typed) (row : Row) (name : List ℕ) (x : Typed) (b : Bool) → bytes_eq r.0 name ≡ b → IsTypedIn legacy es r → (meaning row name ≡ Some x → IsTypedIn legacy es (name, x)) → cond b (Some r.1) (meaning row name) ≡ Some x → IsTypedIn legacy es (name, x)
row_by legacy es r row name x true t here later e =
    let P : List ℕ → Type 0 = λ m. IsTypedIn legacy es (m, r.1) in
    let Q : Typed → Type 0 = λ z. IsTypedIn legacy es (name, z) in
    subst Q (some_is r.1 x e) (subst P (same_text r.0 name t) here)
row_by legacy es r row name x false t here later e = later e

pub in_row : (legacy : Bool) (es : List ValueEntry) (row : Row) (name : List ℕ) (x : Typed) → AllByRecursion (IsTypedIn legacy es) row → meaning row name ≡ Some x → IsTypedIn legacy es (name, x)
in_row legacy es [] name x h e = absurd (let k : ⊥ = cc in k)
in_row legacy es (r ∷ row) name x (h, hs) e = row_by legacy es r row name x (bytes_eq r.0 name) refl h (λ k. in_row legacy es row name x hs k) e

member_is : (legacy : Bool) {A : Type 0} (check : Value → Checked A) (name : List ℕ) (es : List ValueEntry) (x : A) (t : Typed) → ((w : Value) → check w ≡ Ok x → value_of legacy (kind_of t) w ≡ Ok t) → member check name es ≡ Ok x → IsTypedIn legacy es (name, t)
unfolding member
member_is legacy check name es x t to e = made (or_broken ValueShape (named name es)) (λ v. under name (check v)) x e (λ u h k. record { value = u; stands = from_some ValueShape (named name es) u h; typed = to u (from_part name (check u) x k) })

-- the child of an object, and of a list
pub child_named : (v : Value) (es : List ValueEntry) (name : List ℕ) → plain_object_in v ≡ Some es → child name v ≡ named name es
child_named plain_null es name o = absurd (let h : ⊥ = cc in h)
child_named (plain_boolean b) es name o = absurd (let h : ⊥ = cc in h)
child_named (plain_number k) es name o = absurd (let h : ⊥ = cc in h)
child_named (plain_string s) es name o = absurd (let h : ⊥ = cc in h)
child_named (plain_array vs) es name o = absurd (let h : ⊥ = cc in h)
child_named (plain_object ms) es name o = ap (named name) (some_is (plain_entries_in ms) es o)

pub child_item : (v : Value) (vs : List Value) (step : List ℕ) → plain_array_in v ≡ Some vs → child step v ≡ item_at step 0 vs
child_item plain_null vs step o = absurd (let h : ⊥ = cc in h)
child_item (plain_boolean b) vs step o = absurd (let h : ⊥ = cc in h)
child_item (plain_number k) vs step o = absurd (let h : ⊥ = cc in h)
child_item (plain_string s) vs step o = absurd (let h : ⊥ = cc in h)
child_item (plain_array ws) vs step o = ap (item_at step 0) (some_is (plains_in ws) vs o)
child_item (plain_object ms) vs step o = absurd (let h : ⊥ = cc in h)

last_step : (v w : Value) (name : List ℕ) → plain_at v (name ∷ []) ≡ Some w → child name v ≡ Some w
last_step v w name e = some_then (λ u. Some u) (child name v) w e (λ u h k. h ∙ ap Some (some_is u w k))

member_part : (legacy : Bool) (v w : Value) (row : Row) (name : List ℕ) (x : Typed) → Rows legacy v row → plain_at v (name ∷ []) ≡ Some w → meaning row name ≡ Some x → value_of legacy (kind_of x) w ≡ Ok x
member_part legacy v w row name x r e m =
    let here = in_row legacy r.es row name x r.typed m in
    let P : Value → Type 0 = λ z. value_of legacy (kind_of x) z ≡ Ok x in
    subst P (some_is here.value w (sym here.stands ∙ (sym (child_named v r.es name r.object) ∙ last_step v w name e))) here.typed

-- the rows of the kinds

pub border_rows : (legacy : Bool) (v : Value) (b : Border) → border_in legacy v ≡ Ok b → Rows legacy v (border_row b)
unfolding border_in
border_rows legacy v b e =
    made (members_in v) _ b e (λ es h e1.
    made (member (color_in legacy) (codes "color") es) _ b e1 (λ color c e2.
    made (member (size_in legacy) (codes "width") es) _ b e2 (λ width w e3.
    made (member (stroke_in legacy) (codes "style") es) _ b e3 (λ style s e4.
    let P : Border → Type 0 = λ z. Rows legacy v (border_row z) in
    found P (record { color = color; width = width; style = style }) b e4 (record {
      es = es;
      object = members_are v es h;
      typed = (
        member_is legacy (color_in legacy) (codes "color") es color (color_part color) (λ u k. color_typed legacy u color k) c,
        (
          member_is legacy (size_in legacy) (codes "width") es width (size_part width) (λ u k. size_typed legacy u width k) w,
          (member_is legacy (stroke_in legacy) (codes "style") es style (typed.StrokeStyle style) (λ u k. stroke_typed legacy u style k) s, tt),
        ),
      );
    })))))

pub transition_rows : (legacy : Bool) (v : Value) (t : Transition) → transition_in legacy v ≡ Ok t → Rows legacy v (transition_row t)
unfolding transition_in
transition_rows legacy v t e =
    made (members_in v) _ t e (λ es h e1.
    made (member (time_in legacy) (codes "duration") es) _ t e1 (λ duration d e2.
    made (member (time_in legacy) (codes "delay") es) _ t e2 (λ delay l e3.
    made (member curve_in (codes "timingFunction") es) _ t e3 (λ timing f e4.
    let P : Transition → Type 0 = λ z. Rows legacy v (transition_row z) in
    found P (record { duration = duration; delay = delay; timing = timing }) t e4 (record {
      es = es;
      object = members_are v es h;
      typed = (
        member_is legacy (time_in legacy) (codes "duration") es duration (time_part duration) (λ u k. time_typed legacy u duration k) d,
        (
          member_is legacy (time_in legacy) (codes "delay") es delay (time_part delay) (λ u k. time_typed legacy u delay k) l,
          (member_is legacy curve_in (codes "timingFunction") es timing (typed.Simple (simple.CubicBezier timing)) (λ u k. curve_typed legacy u timing k) f, tt),
        ),
      );
    })))))

pub shadow_rows : (legacy : Bool) (v : Value) (item : ShadowItem) → shadow_item_in legacy v ≡ Ok item → Rows legacy v (shadow_row item)
unfolding shadow_item_in
shadow_rows legacy v item e =
    made (members_in v) _ item e (λ es h e1.
    made (member (color_in legacy) (codes "color") es) _ item e1 (λ color c e2.
    made (member (size_in legacy) (codes "offsetX") es) _ item e2 (λ offset_x x e3.
    made (member (size_in legacy) (codes "offsetY") es) _ item e3 (λ offset_y y e4.
    made (member (size_in legacy) (codes "blur") es) _ item e4 (λ blur b e5.
    made (member (size_in legacy) (codes "spread") es) _ item e5 (λ spread s e6.
    made (member_or boolean_in false (codes "inset") es) _ item e6 (λ inset i e7.
    let P : ShadowItem → Type 0 = λ z. Rows legacy v (shadow_row z) in
    found P (record { color = color; offset_x = offset_x; offset_y = offset_y; blur = blur; spread = spread; inset = inset }) item e7 (record {
      es = es;
      object = members_are v es h;
      typed = (
        member_is legacy (color_in legacy) (codes "color") es color (color_part color) (λ u k. color_typed legacy u color k) c,
        (
          member_is legacy (size_in legacy) (codes "offsetX") es offset_x (size_part offset_x) (λ u k. size_typed legacy u offset_x k) x,
          (
            member_is legacy (size_in legacy) (codes "offsetY") es offset_y (size_part offset_y) (λ u k. size_typed legacy u offset_y k) y,
            (
              member_is legacy (size_in legacy) (codes "blur") es blur (size_part blur) (λ u k. size_typed legacy u blur k) b,
              (member_is legacy (size_in legacy) (codes "spread") es spread (size_part spread) (λ u k. size_typed legacy u spread k) s, tt),
            ),
          ),
        ),
      );
    }))))))))

pub stop_rows : (legacy : Bool) (v : Value) (stop : ColorStop) → stop_in legacy v ≡ Ok stop → Rows legacy v (stop_row stop)
unfolding stop_in
stop_rows legacy v stop e =
    made (members_in v) _ stop e (λ es h e1.
    made (member (color_in legacy) (codes "color") es) _ stop e1 (λ color c e2.
    made (member number_in (codes "position") es) _ stop e2 (λ position p e3.
    let P : ColorStop → Type 0 = λ z. Rows legacy v (stop_row z) in
    found P (record { color = color; position = clamped position }) stop e3 (record {
      es = es;
      object = members_are v es h;
      typed = (member_is legacy (color_in legacy) (codes "color") es color (color_part color) (λ u k. color_typed legacy u color k) c, tt);
    }))))

pub typography_rows : (legacy : Bool) (v : Value) (t : Typography) → typography_in legacy v ≡ Ok t → Rows legacy v (typography_row t)
unfolding typography_in
typography_rows legacy v t e =
    made (members_in v) _ t e (λ es h e1.
    made (member families_in (codes "fontFamily") es) _ t e1 (λ family f e2.
    made (member (size_in legacy) (codes "fontSize") es) _ t e2 (λ size s e3.
    made (member weight_in (codes "fontWeight") es) _ t e3 (λ weight w e4.
    made (member (size_in legacy) (codes "letterSpacing") es) _ t e4 (λ spacing p e5.
    made (member number_in (codes "lineHeight") es) _ t e5 (λ line_height l e6.
    let P : Typography → Type 0 = λ z. Rows legacy v (typography_row z) in
    found P (record { family = family; size = size; weight = weight; spacing = spacing; line_height = line_height }) t e6 (record {
      es = es;
      object = members_are v es h;
      typed = (
        member_is legacy families_in (codes "fontFamily") es family (typed.Simple (simple.FontFamily family)) (λ u k. families_typed legacy u family k) f,
        (
          member_is legacy (size_in legacy) (codes "fontSize") es size (size_part size) (λ u k. size_typed legacy u size k) s,
          (
            member_is legacy weight_in (codes "fontWeight") es weight (typed.Simple (simple.FontWeight weight)) (λ u k. weight_typed legacy u weight k) w,
            (
              member_is legacy (size_in legacy) (codes "letterSpacing") es spacing (size_part spacing) (λ u k. size_typed legacy u spacing k) p,
              (member_is legacy number_in (codes "lineHeight") es line_height (typed.Simple (simple.Number line_height)) (λ u k. number_typed legacy u line_height k) l, tt),
            ),
          ),
        ),
      );
    })))))))

-- items of lists

item_map_by : {A B : Type 0} (f : A → B) (step : List ℕ) (i : ℕ) (x : A) (xs : List A) (b : Bool) → item_at step (i + 1) (map f xs) ≡ option_map f (item_at step (i + 1) xs) → cond b (Some (f x)) (item_at step (i + 1) (map f xs)) ≡ option_map f (cond b (Some x) (item_at step (i + 1) xs))
item_map_by f step i x xs true h = refl
item_map_by f step i x xs false h = h

pub item_map : {A B : Type 0} (f : A → B) (step : List ℕ) (i : ℕ) (xs : List A) → item_at step i (map f xs) ≡ option_map f (item_at step i xs)
item_map f step i [] = refl
item_map f step i (x ∷ xs) = item_map_by f step i x xs (bytes_eq (decimal i) step) (item_map f step (i + 1) xs)

-- an item of the list, and what it was found to be
record Pair {A : Type 0} (check : Value → Checked A) (step : List ℕ) (i : ℕ) (xs : List A) (w : Value) : Type 0 where
  part : A
  stands : item_at step i xs ≡ Some part
  checks : check w ≡ Ok part

pair_by : {A : Type 0} (check : Value → Checked A) (step : List ℕ) (i : ℕ) (v w : Value) (vs : List Value) (x : A) (ys : List A) (b : Bool) → bytes_eq (decimal i) step ≡ b → check v ≡ Ok x → (item_at step (i + 1) vs ≡ Some w → Pair check step (i + 1) ys w) → cond b (Some v) (item_at step (i + 1) vs) ≡ Some w → Pair check step i (x ∷ ys) w
pair_by check step i v w vs x ys true t h later e = record { part = x; stands = ap (λ b. cond b (Some x) (item_at step (i + 1) ys)) t; checks = ap check (sym (some_is v w e)) ∙ h }
pair_by check step i v w vs x ys false t h later e =
    let p = later e in
    record { part = p.part; stands = ap (λ b. cond b (Some x) (item_at step (i + 1) ys)) t ∙ p.stands; checks = p.checks }

pair : {A : Type 0} (check : Value → Checked A) (step : List ℕ) (i : ℕ) (vs : List Value) (xs : List A) (w : Value) → each check i vs ≡ Ok xs → item_at step i vs ≡ Some w → Pair check step i xs w
pair check step i [] xs w e n = absurd (let k : ⊥ = cc in k)
pair check step i (v ∷ vs) xs w e n =
    made (under (decimal i) (check v)) _ xs e (λ x h e2.
    made (each check (i + 1) vs) _ xs e2 (λ ys k e3.
    found (λ z. Pair check step i z w) (x ∷ ys) xs e3 (pair_by check step i v w vs x ys (bytes_eq (decimal i) step) refl (from_part (decimal i) (check v) x h) (λ m. pair check step (i + 1) vs ys w k m) n)))

-- a list with its items
pub record Items {A : Type 0} (check : Value → Checked A) (v : Value) (xs : List A) : Type 0 where
  pub vs : List Value
  pub array : plain_array_in v ≡ Some vs
  pub every : each check 0 vs ≡ Ok xs

pub items_are : {A : Type 0} (check : Value → Checked A) (v : Value) (xs : List A) → some_in check v ≡ Ok xs → Items check v xs
unfolding some_in
items_are check v xs e = made (some_items_in v) _ xs e (λ vs h e2. record { vs = vs; array = some_items_are v vs h; every = e2 })

item_part : (legacy : Bool) {A : Type 0} (check : Value → Checked A) (f : A → Row) (rows : (v : Value) (x : A) → check v ≡ Ok x → Rows legacy v (f x)) (v w : Value) (xs : List A) (index name : List ℕ) (x : Typed) → Items check v xs → plain_at v (index ∷ name ∷ []) ≡ Some w → option_and_then (λ row. meaning row name) (item_at index 0 (map f xs)) ≡ Some x → value_of legacy (kind_of x) w ≡ Ok x
item_part legacy check f rows v w xs index name x l e m =
    some_then (λ u. plain_at u (name ∷ [])) (child index v) w e (λ u h k.
    let p = pair check index 0 l.vs xs u l.every (sym (child_item v l.vs index l.array) ∙ h) in
    let r : item_at index 0 (map f xs) ≡ Some (f p.part) = item_map f index 0 xs ∙ ap (option_map f) p.stands in
    member_part legacy u w (f p.part) name x (rows u p.part p.checks) k (sym (ap (option_and_then (λ row. meaning row name)) r) ∙ m))

-- values

abbrev PartsOf : (legacy : Bool) → Value → Typed → Type 0
PartsOf legacy v t = (steps : List (List ℕ)) (w : Value) (part : Typed) → plain_at v steps ≡ Some w → part_at t steps ≡ Some part → value_of legacy (kind_of part) w ≡ Ok part

whole_part : (legacy : Bool) (v w : Value) (t part : Typed) → value_of legacy (kind_of t) v ≡ Ok t → plain_at v [] ≡ Some w → part_at t [] ≡ Some part → value_of legacy (kind_of part) w ≡ Ok part
whole_part legacy v w t part h e p =
    let P : Value → Typed → Type 0 = λ z x. value_of legacy (kind_of x) z ≡ Ok x in
    subst (λ z. P z part) (some_is v w e) (subst (λ x. P v x) (some_is t part p) h)

no_parts : (legacy : Bool) (v : Value) (t : Typed) → member_row t ≡ [] → item_rows t ≡ [] → value_of legacy (kind_of t) v ≡ Ok t → PartsOf legacy v t
no_parts legacy v t m i h [] w part e p = whole_part legacy v w t part h e p
no_parts legacy v t m i h (name ∷ []) w part e p = let k : ◌≡◌ {A = Option Typed} None (Some part) = sym (ap (λ r. meaning r name) m) ∙ p in absurd (let z : ⊥ = cc in z)
no_parts legacy v t m i h (index ∷ name ∷ []) w part e p = let k : ◌≡◌ {A = Option Typed} None (Some part) = sym (ap (λ r. option_and_then (λ row. meaning row name) (item_at index 0 r)) i) ∙ p in absurd (let z : ⊥ = cc in z)
no_parts legacy v t m i h (a ∷ b ∷ c ∷ steps) w part e p = absurd (let z : ⊥ = cc in z)

member_parts : (legacy : Bool) (v : Value) (t : Typed) → Rows legacy v (member_row t) → item_rows t ≡ [] → value_of legacy (kind_of t) v ≡ Ok t → PartsOf legacy v t
member_parts legacy v t r i h [] w part e p = whole_part legacy v w t part h e p
member_parts legacy v t r i h (name ∷ []) w part e p = member_part legacy v w (member_row t) name part r e p
member_parts legacy v t r i h (index ∷ name ∷ []) w part e p = let k : ◌≡◌ {A = Option Typed} None (Some part) = sym (ap (λ r. option_and_then (λ row. meaning row name) (item_at index 0 r)) i) ∙ p in absurd (let z : ⊥ = cc in z)
member_parts legacy v t r i h (a ∷ b ∷ c ∷ steps) w part e p = absurd (let z : ⊥ = cc in z)

gradient_parts : (legacy : Bool) (v : Value) (stops : List ColorStop) → gradient_in legacy v ≡ Ok stops → value_of legacy kind.Gradient v ≡ Ok (typed.Gradient stops) → PartsOf legacy v (typed.Gradient stops)
unfolding gradient_in
gradient_parts legacy v stops g h [] w part e p = whole_part legacy v w (typed.Gradient stops) part h e p
gradient_parts legacy v stops g h (name ∷ []) w part e p = absurd (let z : ⊥ = cc in z)
gradient_parts legacy v stops g h (index ∷ name ∷ []) w part e p = item_part legacy (stop_in legacy) stop_row (stop_rows legacy) v w stops index name part (items_are (stop_in legacy) v stops g) e p
gradient_parts legacy v stops g h (a ∷ b ∷ c ∷ steps) w part e p = absurd (let z : ⊥ = cc in z)

-- a list of one shadow has its item at `0`, which is no name of a part
zero_if : {A : Type 0} (x y : A) (step : List ℕ) (b : Bool) → bytes_eq (decimal 0) step ≡ b → cond b (Some x) None ≡ Some y → codes "0" ≡ step
zero_if x y step true t e = same_text (codes "0") step (ap (λ ds. bytes_eq ds step) (sym (decimal_digit 0 (omega arith))) ∙ t)
zero_if x y step false t e = absurd (let h : ⊥ = cc in h)

only_zero : {A : Type 0} (x y : A) (step : List ℕ) → item_at step 0 (x ∷ []) ≡ Some y → codes "0" ≡ step
only_zero x y step e = zero_if x y step (bytes_eq (decimal 0) step) refl e

zero_no_part : (item : ShadowItem) (x : Typed) → meaning (shadow_row item) (codes "0") ≡ Some x → ⊥
zero_no_part item x e = cc

listed_no_member : (legacy : Bool) (v w : Value) (items : List ShadowItem) (name : List ℕ) (x : Typed) → Items (shadow_item_in legacy) v items → plain_at v (name ∷ []) ≡ Some w → meaning (only_row items) name ≡ Some x → ⊥
listed_no_member legacy v w [] name x l e m = cc
listed_no_member legacy v w (item ∷ []) name x l e m =
    let p = pair (shadow_item_in legacy) name 0 l.vs (item ∷ []) w l.every (sym (child_item v l.vs name l.array) ∙ last_step v w name e) in
    zero_no_part item x (ap (meaning (shadow_row item)) (only_zero item p.part name p.stands) ∙ m)
listed_no_member legacy v w (item ∷ next ∷ items) name x l e m = cc

listed_parts : (legacy : Bool) (v : Value) (items : List ShadowItem) → some_in (shadow_item_in legacy) v ≡ Ok items → value_of legacy kind.Shadow v ≡ Ok (typed.Shadow items) → PartsOf legacy v (typed.Shadow items)
listed_parts legacy v items g h [] w part e p = whole_part legacy v w (typed.Shadow items) part h e p
listed_parts legacy v items g h (name ∷ []) w part e p = absurd (listed_no_member legacy v w items name part (items_are (shadow_item_in legacy) v items g) e p)
listed_parts legacy v items g h (index ∷ name ∷ []) w part e p = item_part legacy (shadow_item_in legacy) shadow_row (shadow_rows legacy) v w items index name part (items_are (shadow_item_in legacy) v items g) e p
listed_parts legacy v items g h (a ∷ b ∷ c ∷ steps) w part e p = absurd (let z : ⊥ = cc in z)

-- a shadow that is one object has no member `0`
object_no_item : (v w : Value) (es : List ValueEntry) (item : ShadowItem) (index name : List ℕ) (x : Typed) → plain_object_in v ≡ Some es → named (codes "0") es ≡ None → plain_at v (index ∷ name ∷ []) ≡ Some w → option_and_then (λ row. meaning row name) (item_at index 0 (shadow_row item ∷ [])) ≡ Some x → ⊥
object_no_item v w es item index name x o n e m =
    some_then (λ u. plain_at u (name ∷ [])) (child index v) w e (λ u h k.
    some_then (λ row. meaning row name) (item_at index 0 (shadow_row item ∷ [])) x m (λ row r q.
    let there : named (codes "0") es ≡ Some u = ap (λ s. named s es) (only_zero (shadow_row item) row index r) ∙ (sym (child_named v es index o) ∙ h) in
    let both : ◌≡◌ {A = Option Value} None (Some u) = sym n ∙ there in cc))

alone_parts : (legacy : Bool) (v : Value) (es : List ValueEntry) (item : ShadowItem) → plain_object_in v ≡ Some es → named (codes "0") es ≡ None → shadow_item_in legacy v ≡ Ok item → value_of legacy kind.Shadow v ≡ Ok (typed.Shadow (item ∷ [])) → PartsOf legacy v (typed.Shadow (item ∷ []))
alone_parts legacy v es item o n g h [] w part e p = whole_part legacy v w (typed.Shadow (item ∷ [])) part h e p
alone_parts legacy v es item o n g h (name ∷ []) w part e p = member_part legacy v w (shadow_row item) name part (shadow_rows legacy v item g) e p
alone_parts legacy v es item o n g h (index ∷ name ∷ []) w part e p = absurd (object_no_item v w es item index name part o n e p)
alone_parts legacy v es item o n g h (a ∷ b ∷ c ∷ steps) w part e p = absurd (let z : ⊥ = cc in z)

one_parts : (legacy : Bool) (v : Value) (es : List ValueEntry) (items : List ShadowItem) (o : Option Value) → plain_object_in v ≡ Some es → named (codes "0") es ≡ o → unless_zero o (one_item legacy v) ≡ Ok items → value_of legacy kind.Shadow v ≡ Ok (typed.Shadow items) → PartsOf legacy v (typed.Shadow items)
unfolding one_item
one_parts legacy v es items (Some zero) o n e h = absurd (let k : ⊥ = cc in k)
one_parts legacy v es items None o n e h =
    made (shadow_item_in legacy v) _ items e (λ item g e2.
    let P : List ShadowItem → Type 0 = λ z. value_of legacy kind.Shadow v ≡ Ok (typed.Shadow z) → PartsOf legacy v (typed.Shadow z) in
    found P (item ∷ []) items e2 (alone_parts legacy v es item o n g) h)

shadow_by : (legacy : Bool) (v : Value) (items : List ShadowItem) (l : Option (List Value)) → if_list l (some_in (shadow_item_in legacy) v) (one_shadow legacy v) ≡ Ok items → value_of legacy kind.Shadow v ≡ Ok (typed.Shadow items) → PartsOf legacy v (typed.Shadow items)
unfolding one_shadow
shadow_by legacy v items (Some vs) e h = listed_parts legacy v items e h
shadow_by legacy v items None e h = made (members_in v) _ items e (λ es k e2. one_parts legacy v es items (named (codes "0") es) (members_are v es k) refl e2 h)

shadow_parts : (legacy : Bool) (v : Value) (items : List ShadowItem) → shadows_in legacy v ≡ Ok items → value_of legacy kind.Shadow v ≡ Ok (typed.Shadow items) → PartsOf legacy v (typed.Shadow items)
unfolding shadows_in
shadow_parts legacy v items e h = shadow_by legacy v items (plain_array_in v) e h

abbrev Whole : (legacy : Bool) → Value → Typed → Type 0
Whole legacy v t = value_of legacy (kind_of t) v ≡ Ok t

parts_by_kind : (legacy : Bool) (k : Kind) (v : Value) (t : Typed) → value_of legacy k v ≡ Ok t → Whole legacy v t → PartsOf legacy v t
parts_by_kind legacy k v t e =
    by_kind legacy v (λ own z. Whole legacy v z → PartsOf legacy v z) (record {
      simple = λ own x g h. no_parts legacy v (typed.Simple x) refl refl h;
      stroke = λ x g h. no_parts legacy v (typed.StrokeStyle x) refl refl h;
      border = λ x g h. member_parts legacy v (typed.Border x) (border_rows legacy v x g) refl h;
      transition = λ x g h. member_parts legacy v (typed.Transition x) (transition_rows legacy v x g) refl h;
      shadow = λ x g h. shadow_parts legacy v x g h;
      gradient = λ x g h. gradient_parts legacy v x g h;
      typography = λ x g h. member_parts legacy v (typed.Typography x) (typography_rows legacy v x g) refl h;
    }) k t e

pub parts_typed : (legacy : Bool) (k : Kind) (v w : Value) (t part : Typed) (steps : List (List ℕ)) → value_of legacy k v ≡ Ok t → plain_at v steps ≡ Some w → part_at t steps ≡ Some part → value_of legacy (kind_of part) w ≡ Ok part
parts_typed legacy k v w t part steps e p q =
    let same : kind_of t ≡ k = (values_keep legacy k v t e).0 in
    let h : value_of legacy (kind_of t) v ≡ Ok t = ap (λ z. value_of legacy z v) same ∙ e in
    parts_by_kind legacy k v t e h steps w part p q
