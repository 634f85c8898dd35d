-- Where the parts of a value stand.
use Rattle.std.proofs.Common.{◌≡◌, ℕ, ◌+◌, Bool, true, false, cond, List, [], ◌∷◌, map, codes, Option, Some, None, Ok, refl, ap, sym, ◌∙◌}
use Rattle.std.specs.Prelude.{option_and_then, option_map}
use Rattle.std.specs.Fmt.{decimal}
use Rattle.std.specs.Str.{bytes_eq}
use Rattle.json_span.specs.Plain.{plain_array_in, plain_object_in}
use Rattle.json_span.specs.PlainView.{Value, ValueEntry}
use Rattle.name_path.specs.declared.kind.Kind.{Kind}
use Rattle.type_rules.specs.Checked.{Checked, under}
use Rattle.type_rules.specs.Forms.{members_in, named, each, some_in}
use Rattle.type_rules.specs.Words.{meaning}
use Rattle.type_rules.specs.Trails.{item_at, child, plain_at}
use Rattle.type_rules.proofs.Keeping.{made, found, from_part}
use Rattle.type_rules.proofs.Standing.{some_then, some_is}
use Rattle.composite_rules.specs.declared.shadow.ShadowItem.{ShadowItem}
use Rattle.composite_rules.specs.declared.gradient.ColorStop.{ColorStop}
use Rattle.composite_rules.specs.declared.typed.Typed.{Typed}
use Rattle.composite_rules.specs.declared.typed.Typed.TheVariants as typed
use Rattle.composite_rules.specs.Value.{shadow_item_in, unless_zero, one_item, one_shadow, if_list, shadows_in, stop_in, gradient_in, value_of}
use Rattle.composite_rules.specs.Parts.{Row, shadow_row, stop_row, member_row, item_rows, part_at, HasForm}
use Rattle.composite_rules.proofs.ByKind.{by_kind}
use Rattle.composite_rules.proofs.Led.{array_none}
use Rattle.composite_rules.proofs.Typing.{Rows, in_row, child_named, child_item, border_rows, transition_rows, shadow_rows, stop_rows, typography_rows, item_map, Items, items_are}

abbrev Stands : Value → List (List ℕ) → Type 0
Stands v steps = (w : Value) × (plain_at v steps ≡ Some w)

one_step : (v w : Value) (name : List ℕ) → child name v ≡ Some w → plain_at v (name ∷ []) ≡ Some w
one_step v w name e = ap (option_and_then (λ u. Some u)) e

member_stands : (legacy : Bool) (v : Value) (row : Row) (name : List ℕ) (x : Typed) → Rows legacy v row → meaning row name ≡ Some x → Stands v (name ∷ [])
member_stands legacy v row name x r m = let here = in_row legacy r.es row name x r.typed m in (here.value, one_step v here.value name (child_named v r.es name r.object ∙ here.stands))

-- an item that was found to be this
record Source {A : Type 0} (check : Value → Checked A) (step : List ℕ) (i : ℕ) (vs : List Value) (x : A) : Type 0 where
  value : Value
  stands : item_at step i vs ≡ Some value
  checks : check value ≡ Ok x

source_by : {A : Type 0} (check : Value → Checked A) (step : List ℕ) (i : ℕ) (v : Value) (vs : List Value) (y x : A) (ys : List A) (b : Bool) → bytes_eq (decimal i) step ≡ b → check v ≡ Ok y → (item_at step (i + 1) ys ≡ Some x → Source check step (i + 1) vs x) → cond b (Some y) (item_at step (i + 1) ys) ≡ Some x → Source check step i (v ∷ vs) x
source_by check step i v vs y x ys true t h later e = record { value = v; stands = ap (λ b. cond b (Some v) (item_at step (i + 1) vs)) t; checks = h ∙ ap Ok (some_is y x e) }
source_by check step i v vs y x ys false t h later e =
    let s = later e in
    record { value = s.value; stands = ap (λ b. cond b (Some v) (item_at step (i + 1) vs)) t ∙ s.stands; checks = s.checks }

source : {A : Type 0} (check : Value → Checked A) (step : List ℕ) (i : ℕ) (vs : List Value) (xs : List A) (x : A) → each check i vs ≡ Ok xs → item_at step i xs ≡ Some x → Source check step i vs x
source check step i [] xs x e n =
    let P : List _ → Type 0 = λ z. item_at step i z ≡ Some x → Source check step i [] x in
    found P [] xs e (λ m. absurd (let k : ⊥ = cc in k)) n
source check step i (v ∷ vs) xs x e n =
    made (under (decimal i) (check v)) _ xs e (λ y h e2.
    made (each check (i + 1) vs) _ xs e2 (λ ys k e3.
    let P : List _ → Type 0 = λ z. item_at step i z ≡ Some x → Source check step i (v ∷ vs) x in
    found P (y ∷ ys) xs e3 (λ m. source_by check step i v vs y x ys (bytes_eq (decimal i) step) refl (from_part (decimal i) (check v) y h) (λ q. source check step (i + 1) vs ys x k q) m) n))

mapped : {A B P : Type 0} (f : A → B) (o : Option A) (y : B) → option_map f o ≡ Some y → ((x : A) → o ≡ Some x → f x ≡ y → P) → P
mapped f (Some x) y e k = k x refl (some_is (f x) y e)
mapped f None y e k = absurd (let h : ⊥ = cc in h)

item_stands : (legacy : Bool) {A : Type 0} (check : Value → Checked A) (f : A → Row) (rows : (v : Value) (x : A) → check v ≡ Ok x → Rows legacy v (f x)) (v : Value) (xs : List A) (index name : List ℕ) (x : Typed) → Items check v xs → option_and_then (λ row. meaning row name) (item_at index 0 (map f xs)) ≡ Some x → Stands v (index ∷ name ∷ [])
item_stands legacy check f rows v xs index name x l m =
    some_then (λ row. meaning row name) (item_at index 0 (map f xs)) x m (λ row r q.
    mapped f (item_at index 0 xs) row (sym (item_map f index 0 xs) ∙ r) (λ y n same.
    let s = source check index 0 l.vs xs y l.every n in
    let (w, e) = member_stands legacy s.value (f y) name x (rows s.value y s.checks) (ap (λ z. meaning z name) same ∙ q) in
    (w, ap (option_and_then (λ u. plain_at u (name ∷ []))) (child_item v l.vs index l.array ∙ s.stands) ∙ e)))

abbrev StandAll : Value → Typed → Type 0
StandAll v t = (steps : List (List ℕ)) (part : Typed) → part_at t steps ≡ Some part → HasForm v steps → Stands v steps

none_stand : (v : Value) (t : Typed) → member_row t ≡ [] → item_rows t ≡ [] → StandAll v t
none_stand v t m i [] part p f = (v, refl)
none_stand v t m i (name ∷ []) part p f = let k : ◌≡◌ {A = Option Typed} None (Some part) = sym (ap (λ r. meaning r name) m) ∙ p in absurd (let z : ⊥ = cc in z)
none_stand v t m i (index ∷ name ∷ []) part p f = let k : ◌≡◌ {A = Option Typed} None (Some part) = sym (ap (λ r. option_and_then (λ row. meaning row name) (item_at index 0 r)) i) ∙ p in absurd (let z : ⊥ = cc in z)
none_stand v t m i (a ∷ b ∷ c ∷ steps) part p f = absurd (let z : ⊥ = cc in z)

members_stand : (legacy : Bool) (v : Value) (t : Typed) → Rows legacy v (member_row t) → item_rows t ≡ [] → StandAll v t
members_stand legacy v t r i [] part p f = (v, refl)
members_stand legacy v t r i (name ∷ []) part p f = member_stands legacy v (member_row t) name part r p
members_stand legacy v t r i (index ∷ name ∷ []) part p f = let k : ◌≡◌ {A = Option Typed} None (Some part) = sym (ap (λ r. option_and_then (λ row. meaning row name) (item_at index 0 r)) i) ∙ p in absurd (let z : ⊥ = cc in z)
members_stand legacy v t r i (a ∷ b ∷ c ∷ steps) part p f = absurd (let z : ⊥ = cc in z)

gradient_stands : (legacy : Bool) (v : Value) (stops : List ColorStop) → gradient_in legacy v ≡ Ok stops → StandAll v (typed.Gradient stops)
unfolding gradient_in
gradient_stands legacy v stops g [] part p f = (v, refl)
gradient_stands legacy v stops g (name ∷ []) part p f = absurd (let z : ⊥ = cc in z)
gradient_stands legacy v stops g (index ∷ name ∷ []) part p f = item_stands legacy (stop_in legacy) stop_row (stop_rows legacy) v stops index name part (items_are (stop_in legacy) v stops g) p
gradient_stands legacy v stops g (a ∷ b ∷ c ∷ steps) part p f = absurd (let z : ⊥ = cc in z)

-- a list is no object
no_object : (v : Value) (vs : List Value) (es : List ValueEntry) → plain_array_in v ≡ Some vs → plain_object_in v ≡ Some es → ⊥
no_object v vs es a o = let k : ◌≡◌ {A = Option (List Value)} None (Some vs) = sym (array_none v es o) ∙ a in cc

listed_stands : (legacy : Bool) (v : Value) (items : List ShadowItem) → some_in (shadow_item_in legacy) v ≡ Ok items → StandAll v (typed.Shadow items)
listed_stands legacy v items g [] part p f = (v, refl)
listed_stands legacy v items g (name ∷ []) part p (es, o) = let l = items_are (shadow_item_in legacy) v items g in absurd (no_object v l.vs es l.array o)
listed_stands legacy v items g (index ∷ name ∷ []) part p f = item_stands legacy (shadow_item_in legacy) shadow_row (shadow_rows legacy) v items index name part (items_are (shadow_item_in legacy) v items g) p
listed_stands legacy v items g (a ∷ b ∷ c ∷ steps) part p f = absurd (let z : ⊥ = cc in z)

alone_stands : (legacy : Bool) (v : Value) (item : ShadowItem) → shadow_item_in legacy v ≡ Ok item → StandAll v (typed.Shadow (item ∷ []))
alone_stands legacy v item g [] part p f = (v, refl)
alone_stands legacy v item g (name ∷ []) part p f = member_stands legacy v (shadow_row item) name part (shadow_rows legacy v item g) p
alone_stands legacy v item g (index ∷ name ∷ []) part p (vs, a) = let r = shadow_rows legacy v item g in absurd (no_object v vs r.es a r.object)
alone_stands legacy v item g (a ∷ b ∷ c ∷ steps) part p f = absurd (let z : ⊥ = cc in z)

one_stands : (legacy : Bool) (v : Value) (items : List ShadowItem) (o : Option Value) → unless_zero o (one_item legacy v) ≡ Ok items → StandAll v (typed.Shadow items)
unfolding one_item
one_stands legacy v items (Some zero) e = absurd (let k : ⊥ = cc in k)
one_stands legacy v items None e = made (shadow_item_in legacy v) _ items e (λ item g e2. found (λ z. StandAll v (typed.Shadow z)) (item ∷ []) items e2 (alone_stands legacy v item g))

shadow_by : (legacy : Bool) (v : Value) (items : List ShadowItem) (l : Option (List Value)) → if_list l (some_in (shadow_item_in legacy) v) (one_shadow legacy v) ≡ Ok items → StandAll v (typed.Shadow items)
unfolding one_shadow
shadow_by legacy v items (Some vs) e = listed_stands legacy v items e
shadow_by legacy v items None e = made (members_in v) _ items e (λ es k e2. one_stands legacy v items (named (codes "0") es) e2)

shadow_stands : (legacy : Bool) (v : Value) (items : List ShadowItem) → shadows_in legacy v ≡ Ok items → StandAll v (typed.Shadow items)
unfolding shadows_in
shadow_stands legacy v items e = shadow_by legacy v items (plain_array_in v) e

pub parts_stand : (legacy : Bool) (k : Kind) (v : Value) (t : Typed) → value_of legacy k v ≡ Ok t → StandAll v t
parts_stand legacy k v t e =
    by_kind legacy v (λ own z. StandAll v z) (record {
      simple = λ own x g. none_stand v (typed.Simple x) refl refl;
      stroke = λ x g. none_stand v (typed.StrokeStyle x) refl refl;
      border = λ x g. members_stand legacy v (typed.Border x) (border_rows legacy v x g) refl;
      transition = λ x g. members_stand legacy v (typed.Transition x) (transition_rows legacy v x g) refl;
      shadow = λ x g. shadow_stands legacy v x g;
      gradient = λ x g. gradient_stands legacy v x g;
      typography = λ x g. members_stand legacy v (typed.Typography x) (typography_rows legacy v x g) refl;
    }) k t e
