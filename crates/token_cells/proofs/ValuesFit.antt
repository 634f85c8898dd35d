-- A value keeps to the bytes and the lengths of the plain value that it is read of.
use Rattle.std.proofs.Common.{◌≡◌, ℕ, suc, ◌+◌, ◌^◌, ◌≤◌, Bool, true, false, cond, List, [], ◌∷◌, length, codes, Option, Some, None, Ok, refl, ap, sym, subst, arith}
use Rattle.std.specs.Fmt.{decimal}
use Rattle.std.specs.List.{AllByRecursion, list_all}
use Rattle.std.specs.Str.{IsUtf8, bytes_eq}
use Rattle.std.proofs.lemmas.Bool.{and_from}
use Rattle.json_span.specs.FitsIn.{FitsIn, ItemsFitIn, MembersFitIn}
use Rattle.json_span.specs.Plain.{Plains, no_plains, plains, PlainMembers, no_plain_members, plain_members, plain_null, plain_boolean, plain_number, plain_string, plain_array, plain_object, plains_in, plain_entries_in, plain_string_in, plain_array_in, plain_object_in}
use Rattle.json_span.specs.PlainView.{Value, ValueEntry}
use Rattle.json_span.specs.Spelling.{are_bytes}
use Rattle.json_span.proofs.Utf8.{utf8_bytes}
use Rattle.name_path.specs.declared.kind.Kind.{Kind}
use Rattle.name_path.specs.declared.kind.Kind.TheVariants as kind
use Rattle.type_rules.specs.declared.fault.ValueRule.TheVariants.{ValueShape}
use Rattle.type_rules.specs.declared.simple.Simple.{Simple}
use Rattle.type_rules.specs.declared.simple.Simple.TheVariants as simple
use Rattle.type_rules.specs.Checked.{Checked, or_broken, under}
use Rattle.type_rules.specs.Forms.{number_in, text_in, members_in, some_items_in, if_text, named, member, each, some_in}
use Rattle.type_rules.specs.Value.{color_in, size_in, time_in, curve_in, families_in as read_families, weight_in, simple_value}
use Rattle.type_rules.proofs.Keeping.{made, found, from_some, from_part}
use Rattle.type_rules.proofs.Leading.{members_are, some_items_are}
use Rattle.type_rules.proofs.Standing.{some_is}
use Rattle.composite_rules.specs.declared.gradient.ColorStop.{ColorStop}
use Rattle.composite_rules.specs.declared.shadow.ShadowItem.{ShadowItem}
use Rattle.composite_rules.specs.declared.typed.Typed.{Typed}
use Rattle.composite_rules.specs.declared.typed.Typed.TheVariants as typed
use Rattle.composite_rules.specs.declared.typography.Typography.{Typography}
use Rattle.composite_rules.specs.Value.{stroke_in, border_in, transition_in, shadow_item_in, unless_zero, one_item, one_shadow, if_list, shadows_in, stop_in, gradient_in, typography_in, simple_in, value_of}
use Rattle.css_out.specs.Sources.{HasRoom}
use Rattle.json_out.specs.Sheets.{simple_families, typed_families}

-- what a plain value keeps to, its parts keep to
module _ (n : ℕ) where
  items_fit : (vs : Plains (List ℕ)) → ItemsFitIn n vs → AllByRecursion (λ (v : Value). FitsIn n v) (plains_in vs)
  items_fit no_plains h = tt
  items_fit (plains v vs) (h, hs) = (h, items_fit vs hs)

  members_fit : (ms : PlainMembers (List ℕ)) → MembersFitIn n ms
      → AllByRecursion (λ (e : ValueEntry). FitsIn n e.value) (plain_entries_in ms)
  members_fit no_plain_members h = tt
  members_fit (plain_members name v ms) (here, h, hs) = (h, members_fit ms hs)

  text_fits : (v : Value) (s : List ℕ) → FitsIn n v → plain_string_in v ≡ Some s → IsUtf8 s
  text_fits plain_null s h e = absurd (let k : ⊥ = cc in k)
  text_fits (plain_boolean b) s h e = absurd (let k : ⊥ = cc in k)
  text_fits (plain_number d) s h e = absurd (let k : ⊥ = cc in k)
  text_fits (plain_string t) s h e = subst IsUtf8 (some_is t s e) h
  text_fits (plain_array vs) s h e = absurd (let k : ⊥ = cc in k)
  text_fits (plain_object ms) s h e = absurd (let k : ⊥ = cc in k)

  -- the items of a list, and that they are not many
  abbrev Few : List Value → Type 0
  Few vs = (length vs ≤ n) × AllByRecursion (λ (v : Value). FitsIn n v) vs

  array_fits : (v : Value) (vs : List Value) → FitsIn n v → plain_array_in v ≡ Some vs → Few vs
  array_fits plain_null vs h e = absurd (let k : ⊥ = cc in k)
  array_fits (plain_boolean b) vs h e = absurd (let k : ⊥ = cc in k)
  array_fits (plain_number d) vs h e = absurd (let k : ⊥ = cc in k)
  array_fits (plain_string s) vs h e = absurd (let k : ⊥ = cc in k)
  array_fits (plain_array ws) vs (long, each) e = subst Few (some_is (plains_in ws) vs e) (long, items_fit ws each)
  array_fits (plain_object ms) vs h e = absurd (let k : ⊥ = cc in k)

  abbrev EachFits : List ValueEntry → Type 0
  EachFits es = AllByRecursion (λ (e : ValueEntry). FitsIn n e.value) es

  object_fits : (v : Value) (es : List ValueEntry) → FitsIn n v → plain_object_in v ≡ Some es → EachFits es
  object_fits plain_null es h e = absurd (let k : ⊥ = cc in k)
  object_fits (plain_boolean b) es h e = absurd (let k : ⊥ = cc in k)
  object_fits (plain_number d) es h e = absurd (let k : ⊥ = cc in k)
  object_fits (plain_string s) es h e = absurd (let k : ⊥ = cc in k)
  object_fits (plain_array vs) es h e = absurd (let k : ⊥ = cc in k)
  object_fits (plain_object ms) es (long, each) e =
      subst EachFits (some_is (plain_entries_in ms) es e) (members_fit ms each)

  named_by : (b : Bool) (v w : Value) (rest : Option Value) → FitsIn n v → (rest ≡ Some w → FitsIn n w)
      → cond b (Some v) rest ≡ Some w → FitsIn n w
  named_by true v w rest here later e = subst (λ (z : Value). FitsIn n z) (some_is v w e) here
  named_by false v w rest here later e = later e

  named_fits : (name : List ℕ) (es : List ValueEntry) (w : Value) → EachFits es → named name es ≡ Some w → FitsIn n w
  named_fits name [] w h e = absurd (let k : ⊥ = cc in k)
  named_fits name (x ∷ es) w (h, hs) e =
      named_by (bytes_eq x.name name) x.value w (named name es) h (λ k. named_fits name es w hs k) e

  -- a member keeps what its value keeps
  member_fits : {A : Type 0} (check : Value → Checked A) (P : A → Type 0)
      (to : (v : Value) (x : A) → FitsIn n v → check v ≡ Ok x → P x) (name : List ℕ) (es : List ValueEntry) (x : A)
      → EachFits es → member check name es ≡ Ok x → P x
  unfolding member
  member_fits check P to name es x h e =
      made (or_broken ValueShape (named name es)) (λ v. under name (check v)) x e (λ v i k.
      to v x (named_fits name es v h (from_some ValueShape (named name es) v i)) (from_part name (check v) x k))

-- the items of a list are as many as those that are read of them
each_as_many : {A : Type 0} (check : Value → Checked A) (i : ℕ) (vs : List Value) (xs : List A)
    → each check i vs ≡ Ok xs → length xs ≡ length vs
each_as_many check i [] xs e = found (λ z. length z ≡ 0) [] xs e refl
each_as_many check i (v ∷ vs) xs e =
    made (under (decimal i) (check v)) _ xs e (λ x h e2.
    made (each check (i + 1) vs) _ xs e2 (λ ys k e3.
    found (λ z. length z ≡ suc (length vs)) (x ∷ ys) xs e3 (ap suc (each_as_many check (i + 1) vs ys k))))

-- a list that is read is no longer than the plain one
some_few : {A : Type 0} (n : ℕ) (check : Value → Checked A) (v : Value) (xs : List A) → FitsIn n v
    → some_in check v ≡ Ok xs → length xs ≤ n
unfolding some_in
some_few n check v xs h e =
    made (some_items_in v) _ xs e (λ vs k e2.
    subst (λ m. m ≤ n) (sym (each_as_many check 0 vs xs e2)) (array_fits n v vs h (some_items_are v vs k)).0)

-- families

abbrev AreTexts : List (List ℕ) → Type 0
AreTexts fs = list_all are_bytes fs ≡ true

text_read : (n : ℕ) (v : Value) (s : List ℕ) → FitsIn n v → text_in v ≡ Ok s → are_bytes s ≡ true
unfolding text_in
text_read n v s h e = utf8_bytes s (text_fits n v s h (from_some ValueShape (plain_string_in v) s e))

texts_read : (n i : ℕ) (vs : List Value) (fs : List (List ℕ)) → AllByRecursion (λ (v : Value). FitsIn n v) vs
    → each text_in i vs ≡ Ok fs → AreTexts fs
texts_read n i [] fs h e = found AreTexts [] fs e refl
texts_read n i (v ∷ vs) fs (h, hs) e =
    made (under (decimal i) (text_in v)) _ fs e (λ f k e2.
    made (each text_in (i + 1) vs) _ fs e2 (λ rest r e3.
    let first = text_read n v f h (from_part (decimal i) (text_in v) f k) in
    let others = texts_read n (i + 1) vs rest hs r in
    found AreTexts (f ∷ rest) fs e3 (and_from (are_bytes f) (list_all are_bytes rest) first others)))

families_by : (n : ℕ) (o : Option (List ℕ)) (v : Value) (fs : List (List ℕ)) → FitsIn n v → plain_string_in v ≡ o
    → if_text o (λ family. Ok (family ∷ [])) (some_in text_in v) ≡ Ok fs → AreTexts fs
unfolding some_in
families_by n (Some family) v fs h is e =
    found AreTexts (family ∷ []) fs e (and_from (are_bytes family) true (utf8_bytes family (text_fits n v family h is)) refl)
families_by n None v fs h is e =
    made (some_items_in v) _ fs e (λ vs k e2. texts_read n 0 vs fs (array_fits n v vs h (some_items_are v vs k)).1 e2)

families_read : (n : ℕ) (v : Value) (fs : List (List ℕ)) → FitsIn n v → read_families v ≡ Ok fs → AreTexts fs
unfolding read_families
families_read n v fs h e = families_by n (plain_string_in v) v fs h refl e

simple_read : (legacy : Bool) (n : ℕ) (k : Kind) (v : Value) (s : Simple) → FitsIn n v → simple_value legacy k v ≡ Ok s
    → AreTexts (simple_families s)
unfolding simple_value
simple_read legacy n kind.Color v s h e =
    made (color_in legacy v) _ s e (λ x g e2. found (λ z. AreTexts (simple_families z)) (simple.Color x) s e2 refl)
simple_read legacy n kind.Dimension v s h e =
    made (size_in legacy v) _ s e (λ x g e2. found (λ z. AreTexts (simple_families z)) (simple.Dimension x) s e2 refl)
simple_read legacy n kind.FontFamily v s h e =
    made (read_families v) _ s e (λ x g e2.
    found (λ z. AreTexts (simple_families z)) (simple.FontFamily x) s e2 (families_read n v x h g))
simple_read legacy n kind.FontWeight v s h e =
    made (weight_in v) _ s e (λ x g e2. found (λ z. AreTexts (simple_families z)) (simple.FontWeight x) s e2 refl)
simple_read legacy n kind.Duration v s h e =
    made (time_in legacy v) _ s e (λ x g e2. found (λ z. AreTexts (simple_families z)) (simple.Duration x) s e2 refl)
simple_read legacy n kind.CubicBezier v s h e =
    made (curve_in v) _ s e (λ x g e2. found (λ z. AreTexts (simple_families z)) (simple.CubicBezier x) s e2 refl)
simple_read legacy n kind.Number v s h e =
    made (number_in v) _ s e (λ x g e2. found (λ z. AreTexts (simple_families z)) (simple.Number x) s e2 refl)
simple_read legacy n kind.StrokeStyle v s h e = absurd (let k : ⊥ = cc in k)
simple_read legacy n kind.Border v s h e = absurd (let k : ⊥ = cc in k)
simple_read legacy n kind.Transition v s h e = absurd (let k : ⊥ = cc in k)
simple_read legacy n kind.Shadow v s h e = absurd (let k : ⊥ = cc in k)
simple_read legacy n kind.Gradient v s h e = absurd (let k : ⊥ = cc in k)
simple_read legacy n kind.Typography v s h e = absurd (let k : ⊥ = cc in k)

typography_read : (legacy : Bool) (n : ℕ) (v : Value) (t : Typography) → FitsIn n v → typography_in legacy v ≡ Ok t → AreTexts t.family
unfolding typography_in
typography_read legacy n v t h e =
    made (members_in v) _ t e (λ es i e1.
    made (member read_families (codes "fontFamily") es) _ t e1 (λ family f e2.
    made (member (size_in legacy) (codes "fontSize") es) _ t e2 (λ size s e3.
    made (member weight_in (codes "fontWeight") es) _ t e3 (λ weight w e4.
    made (member (size_in legacy) (codes "letterSpacing") es) _ t e4 (λ spacing p e5.
    made (member number_in (codes "lineHeight") es) _ t e5 (λ line_height l e6.
    let read : Typography = record {
      family = family;
      size = size;
      weight = weight;
      spacing = spacing;
      line_height = line_height;
    } in
    let fits = object_fits n v es h (members_are v es i) in
    found (λ (z : Typography). AreTexts z.family) read t e6
    (member_fits n read_families AreTexts (families_read n) (codes "fontFamily") es family fits f)))))))

-- lists

abbrev pub most : ℕ
most = 2 ^ 64

one_few : (legacy : Bool) (v : Value) (items : List ShadowItem) → one_item legacy v ≡ Ok items → length items ≤ most
unfolding one_item
one_few legacy v items e =
    made (shadow_item_in legacy v) _ items e (λ item g e2. found (λ z. length z ≤ most) (item ∷ []) items e2 (omega arith))

unless_few : (legacy : Bool) (o : Option Value) (v : Value) (items : List ShadowItem) → unless_zero o (one_item legacy v) ≡ Ok items
    → length items ≤ most
unless_few legacy (Some zero) v items e = absurd (let k : ⊥ = cc in k)
unless_few legacy None v items e = one_few legacy v items e

shadows_by : (legacy : Bool) (o : Option (List Value)) (v : Value) (items : List ShadowItem) → FitsIn most v
    → if_list o (some_in (shadow_item_in legacy) v) (one_shadow legacy v) ≡ Ok items → length items ≤ most
unfolding one_shadow
shadows_by legacy (Some vs) v items h e = some_few most (shadow_item_in legacy) v items h e
shadows_by legacy None v items h e = made (members_in v) _ items e (λ es g e2. unless_few legacy (named (codes "0") es) v items e2)

shadows_few : (legacy : Bool) (v : Value) (items : List ShadowItem) → FitsIn most v → shadows_in legacy v ≡ Ok items → length items ≤ most
unfolding shadows_in
shadows_few legacy v items h e = shadows_by legacy (plain_array_in v) v items h e

gradients_few : (legacy : Bool) (v : Value) (stops : List ColorStop) → FitsIn most v → gradient_in legacy v ≡ Ok stops → length stops ≤ most
unfolding gradient_in
gradients_few legacy v stops h e = some_few most (stop_in legacy) v stops h e

-- What a value keeps to: its lists have no more items than memory has places, and its families are of bytes.
pub record Keeps (t : Typed) : Type 0 where
  pub room : HasRoom t
  pub families : AreTexts (typed_families t)

simple_keeps : (legacy : Bool) (k : Kind) (v : Value) (t : Typed) → FitsIn most v → simple_in legacy k v ≡ Ok t → Keeps t
unfolding simple_in
simple_keeps legacy k v t h e =
    made (simple_value legacy k v) _ t e (λ s g e2.
    found Keeps (typed.Simple s) t e2 (record { room = tt; families = simple_read legacy most k v s h g }))

-- what a fitting meaning is read as keeps to that
pub values_keep : (legacy : Bool) (k : Kind) (v : Value) (t : Typed) → FitsIn most v → value_of legacy k v ≡ Ok t → Keeps t
unfolding value_of
values_keep legacy kind.Color v t h e = simple_keeps legacy kind.Color v t h e
values_keep legacy kind.Dimension v t h e = simple_keeps legacy kind.Dimension v t h e
values_keep legacy kind.FontFamily v t h e = simple_keeps legacy kind.FontFamily v t h e
values_keep legacy kind.FontWeight v t h e = simple_keeps legacy kind.FontWeight v t h e
values_keep legacy kind.Duration v t h e = simple_keeps legacy kind.Duration v t h e
values_keep legacy kind.CubicBezier v t h e = simple_keeps legacy kind.CubicBezier v t h e
values_keep legacy kind.Number v t h e = simple_keeps legacy kind.Number v t h e
values_keep legacy kind.StrokeStyle v t h e =
    made (stroke_in legacy v) _ t e (λ x g e2. found Keeps (typed.StrokeStyle x) t e2 (record { room = tt; families = refl }))
values_keep legacy kind.Border v t h e =
    made (border_in legacy v) _ t e (λ x g e2. found Keeps (typed.Border x) t e2 (record { room = tt; families = refl }))
values_keep legacy kind.Transition v t h e =
    made (transition_in legacy v) _ t e (λ x g e2.
    found Keeps (typed.Transition x) t e2 (record { room = tt; families = refl }))
values_keep legacy kind.Shadow v t h e =
    made (shadows_in legacy v) _ t e (λ x g e2.
    found Keeps (typed.Shadow x) t e2 (record { room = shadows_few legacy v x h g; families = refl }))
values_keep legacy kind.Gradient v t h e =
    made (gradient_in legacy v) _ t e (λ x g e2.
    found Keeps (typed.Gradient x) t e2 (record { room = gradients_few legacy v x h g; families = refl }))
values_keep legacy kind.Typography v t h e =
    made (typography_in legacy v) _ t e (λ x g e2.
    found Keeps (typed.Typography x) t e2 (record { room = tt; families = typography_read legacy most v x h g }))
