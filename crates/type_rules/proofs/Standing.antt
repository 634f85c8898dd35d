-- What stands at steps. The crates above may use this file.
use Rattle.std.proofs.Common.{◌≡◌, ◌≢◌, ℕ, zero, suc, ◌+◌, ◌<◌, ◌≤◌, ◌^◌, Bool, true, false, cond, List, [], ◌∷◌, length, Option, Some, None, refl, ap, subst, ◌∙◌, arith}
use Rattle.std.specs.Prelude.{slice_get, option_and_then}
use Rattle.std.specs.Fmt.{decimal}
use Rattle.std.specs.Str.{bytes_eq}
use Rattle.std.proofs.lemmas.Fmt.{decimal_injective}
use Rattle.json_span.specs.Plain.{plain_null, plain_boolean, plain_number, plain_string, plain_array, plain_object, plains_in, plain_entries_in}
use Rattle.json_span.specs.PlainView.{Value}
use Rattle.type_rules.specs.Forms.{named}
use Rattle.type_rules.specs.Trails.{Leads, leads_nowhere, leads_by_name, leads_by_index, item_at, plain_at}
use Rattle.type_rules.proofs.WordFacts.{same_text, text_same}

-- an optional value, and what follows of it
pub some_then : {A B : Type 0} {P : Type 0} (f : A → Option B) (o : Option A) (y : B) → option_and_then f o ≡ Some y → ((x : A) → o ≡ Some x → f x ≡ Some y → P) → P
some_then f (Some x) y e k = k x refl e
some_then f None y e k = absurd (let h : ⊥ = cc in h)

pub some_is : {A : Type 0} (x y : A) → ◌≡◌ {A = Option A} (Some x) (Some y) → x ≡ y
some_is x y e = cc

-- an item that is found has this index
record IsFound {A : Type 0} (step : List ℕ) (i : ℕ) (xs : List A) (x : A) : Type 0 where
  k : ℕ
  index : decimal (i + k) ≡ step
  stands : slice_get xs k ≡ Some x

found_by : {A : Type 0} (step : List ℕ) (i : ℕ) (y x : A) (ys : List A) (b : Bool) → bytes_eq (decimal i) step ≡ b → (item_at step (i + 1) ys ≡ Some x → IsFound step (i + 1) ys x) → cond b (Some y) (item_at step (i + 1) ys) ≡ Some x → IsFound step i (y ∷ ys) x
found_by step i y x ys true t later e = let zero_is : i + 0 ≡ i = omega arith in record { k = 0; index = ap decimal zero_is ∙ same_text (decimal i) step t; stands = ap Some (some_is y x e) }
found_by step i y x ys false t later e =
    let f = later e in
    let next : i + suc f.k ≡ (i + 1) + f.k = omega arith in
    record { k = suc f.k; index = ap decimal next ∙ f.index; stands = f.stands }

found : {A : Type 0} (step : List ℕ) (i : ℕ) (xs : List A) (x : A) → item_at step i xs ≡ Some x → IsFound step i xs x
found step i [] x e = absurd (let h : ⊥ = cc in h)
found step i (y ∷ ys) x e = found_by step i y x ys (bytes_eq (decimal i) step) refl (found step (i + 1) ys x) e

-- steps lead where they lead one after another
pub steps_lead : (steps : List (List ℕ)) (v w : Value) → plain_at v steps ≡ Some w → Leads steps v w
steps_lead [] v w e = let P : Value → Type 0 = λ z. Leads [] v z in subst P (some_is v w e) (leads_nowhere v)
steps_lead (step ∷ steps) plain_null w e = absurd (let h : ⊥ = cc in h)
steps_lead (step ∷ steps) (plain_boolean b) w e = absurd (let h : ⊥ = cc in h)
steps_lead (step ∷ steps) (plain_number k) w e = absurd (let h : ⊥ = cc in h)
steps_lead (step ∷ steps) (plain_string s) w e = absurd (let h : ⊥ = cc in h)
steps_lead (step ∷ steps) (plain_array vs) w e =
    some_then (λ u. plain_at u steps) (item_at step 0 (plains_in vs)) w e (λ u h e2.
    let f = found step 0 (plains_in vs) u h in
    let P : List ℕ → Type 0 = λ s. Leads (s ∷ steps) (plain_array vs) w in
    subst P f.index (leads_by_index (0 + f.k) steps (plain_array vs) u w (plains_in vs) refl (let same : 0 + f.k ≡ f.k = omega arith in ap (slice_get (plains_in vs)) same ∙ f.stands) (steps_lead steps u w e2)))
steps_lead (step ∷ steps) (plain_object ms) w e =
    some_then (λ u. plain_at u steps) (named step (plain_entries_in ms)) w e (λ u h e2.
    leads_by_name step steps (plain_object ms) u w (plain_entries_in ms) refl h (steps_lead steps u w e2))

-- the item at an index
differ : (xs ys : List ℕ) (b : Bool) → bytes_eq xs ys ≡ b → xs ≢ ys → b ≡ false
differ xs ys true e n = absurd (n (same_text xs ys e))
differ xs ys false e n = refl

stand_from : {A : Type 0} (xs : List A) (j k : ℕ) → j + length xs ≤ 2 ^ 64 → k < length xs → item_at (decimal (j + k)) j xs ≡ slice_get xs k
stand_from [] j k room h = absurd (omega (arith, h))
stand_from (x ∷ xs) j zero room h =
    let same : j ≡ j + 0 = omega arith in
    ap (λ b. cond b (Some x) (item_at (decimal (j + 0)) (j + 1) xs)) (text_same (decimal j) (decimal (j + 0)) (ap decimal same))
stand_from (x ∷ xs) j (suc k) room h =
    let other : j ≢ j + suc k = (λ e. omega (arith, e)) in
    let next : j + suc k ≡ (j + 1) + k = omega arith in
    let apart : decimal j ≢ decimal (j + suc k) = (λ e. other (decimal_injective j (j + suc k) (omega (arith, room, h)) (omega (arith, room, h)) e)) in
    ap (λ b. cond b (Some x) (item_at (decimal (j + suc k)) (j + 1) xs)) (differ (decimal j) (decimal (j + suc k)) (bytes_eq (decimal j) (decimal (j + suc k))) refl apart)
    ∙ (ap (λ n. item_at (decimal n) (j + 1) xs) next ∙ stand_from xs (j + 1) k (omega (arith, room)) (omega (arith, h)))

pub items_stand : {A : Type 0} (xs : List A) (i : ℕ) → length xs ≤ 2 ^ 64 → i < length xs → item_at (decimal i) 0 xs ≡ slice_get xs i
items_stand xs i room h = let same : i ≡ 0 + i = omega arith in ap (λ n. item_at (decimal n) 0 xs) same ∙ stand_from xs 0 i (omega (arith, room)) h
