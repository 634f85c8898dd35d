-- Where what the parts break is followed into the value. The crates above may use this file.
use Rattle.std.proofs.Common.{◌≡◌, ℕ, zero, suc, ◌+◌, Bool, true, false, ◌==◌, cond, List, [], ◌∷◌, drop, length, Option, Some, None, Ok, Err, refl, ap, sym, subst, ◌∙◌, arith}
use Rattle.std.specs.Prelude.{slice_get}
use Rattle.std.specs.Fmt.{decimal}
use Rattle.json_span.specs.Plain.{plain_string_in, plain_array_in, plain_object_in}
use Rattle.json_span.specs.PlainView.{Value, ValueEntry}
use Rattle.type_rules.specs.declared.fault.ValueRule.{ValueRule}
use Rattle.type_rules.specs.declared.fault.ValueRule.TheVariants.{ValueShape}
use Rattle.type_rules.specs.Checked.{Checked, Break, broken, or_broken, outside, under, ◌>>=◌}
use Rattle.type_rules.specs.Forms.{text_in, items_in, members_in, items_of_length, one_or_more, some_items_in, named, member, member_if, member_or, item, each, list_in, some_in}
use Rattle.type_rules.specs.Words.{meaning, word_in}
use Rattle.type_rules.proofs.Keeping.{made}
use Rattle.type_rules.specs.Trails.{leads_nowhere, leads_by_name, leads_by_index, LeadsInto, BreaksLead}

abbrev pub Led : Value → Break → Type 0
Led v b = LeadsInto v b.trail

pub break_is : {A : Type 0} (a b : Break) → ◌≡◌ {A = Checked A} (Err a) (Err b) → a ≡ b
break_is a b e = cc

-- which of two checks breaks
pub either : {A B P : Type 0} (p : Checked A) (f : A → Checked B) (b : Break) → (p >>= f) ≡ Err b → (p ≡ Err b → P) → ((a : A) → p ≡ Ok a → f a ≡ Err b → P) → P
either (Ok a) f b e here later = later a refl e
either {A} {B} (Err x) f b e here later = here (ap (λ z. Err z) (break_is {A = B} x b e))

-- a sound value breaks nothing
pub sound : {A : Type 0} {P : Type 0} (x : A) (b : Break) → ◌≡◌ {A = Checked A} (Ok x) (Err b) → P
sound x b e = absurd (let h : ⊥ = cc in h)

-- the value's own break
pub own : {A : Type 0} (v : Value) (rule : ValueRule) (b : Break) → ◌≡◌ {A = Checked A} (broken rule) (Err b) → Led v b
own {A} v rule b e = let P : Break → Type 0 = λ z. Led v z in subst P (break_is {A = A} (record { rule = rule; trail = [] }) b e) (v, leads_nowhere v)

pub own_or : {A : Type 0} (v : Value) (rule : ValueRule) (o : Option A) (b : Break) → or_broken rule o ≡ Err b → Led v b
own_or v rule (Some x) b e = sound x b e
own_or {A} v rule None b e = own {A = A} v rule b e

pub own_test : {A : Type 0} (v : Value) (rule : ValueRule) (t : Bool) (x : A) (b : Break) → ◌≡◌ {A = Checked A} (cond t (Ok x) (broken rule)) (Err b) → Led v b
own_test v rule true x b e = sound x b e
own_test {A} v rule false x b e = own {A = A} v rule b e

own_some : (v : Value) (vs : List Value) (b : Break) → one_or_more vs ≡ Err b → Led v b
own_some v [] b e = own {A = List Value} v ValueShape b e
own_some v (x ∷ xs) b e = sound (x ∷ xs) b e

some_is : (vs ws : List Value) → one_or_more vs ≡ Ok ws → vs ≡ ws
some_is [] ws e = absurd (let h : ⊥ = cc in h)
some_is (x ∷ xs) ws e = cc

pub is_there : {A : Type 0} (rule : ValueRule) (o : Option A) (x : A) → or_broken rule o ≡ Ok x → o ≡ Some x
is_there rule (Some y) x e = cc
is_there rule None x e = absurd (let h : ⊥ = cc in h)

-- the break of a part, seen from inside
pub inside : {A P : Type 0} (step : List ℕ) (p : Checked A) (b : Break) → under step p ≡ Err b → ((c : Break) → p ≡ Err c → outside step c ≡ b → P) → P
inside step (Ok x) b e k = sound x b e
inside {A} step (Err c) b e k = k c refl (break_is {A = A} (outside step c) b e)

pub by_name : {A : Type 0} (v w : Value) (es : List ValueEntry) (name : List ℕ) (p : Checked A) (b : Break) → plain_object_in v ≡ Some es → named name es ≡ Some w → ((c : Break) → p ≡ Err c → Led w c) → under name p ≡ Err b → Led v b
by_name v w es name p b o n k e = inside name p b e (λ c h same. let P : Break → Type 0 = λ z. Led v z in subst P same (let (part, led) = k c h in (part, leads_by_name name c.trail v w part es o n led)))

pub by_index : {A : Type 0} (v w : Value) (vs : List Value) (i : ℕ) (p : Checked A) (b : Break) → plain_array_in v ≡ Some vs → slice_get vs i ≡ Some w → ((c : Break) → p ≡ Err c → Led w c) → under (decimal i) p ≡ Err b → Led v b
by_index v w vs i p b o n k e = inside (decimal i) p b e (λ c h same. let P : Break → Type 0 = λ z. Led v z in subst P same (let (part, led) = k c h in (part, leads_by_index i c.trail v w part vs o n led)))

pub members_led : (v : Value) (b : Break) → members_in v ≡ Err b → Led v b
unfolding members_in
members_led v b e = own_or v ValueShape (plain_object_in v) b e

pub members_are : (v : Value) (es : List ValueEntry) → members_in v ≡ Ok es → plain_object_in v ≡ Some es
unfolding members_in
members_are v es e = is_there ValueShape (plain_object_in v) es e

pub items_led : (v : Value) (b : Break) → items_in v ≡ Err b → Led v b
unfolding items_in
items_led v b e = own_or v ValueShape (plain_array_in v) b e

pub items_are : (v : Value) (vs : List Value) → items_in v ≡ Ok vs → plain_array_in v ≡ Some vs
unfolding items_in
items_are v vs e = is_there ValueShape (plain_array_in v) vs e

pub length_led : (n : ℕ) (v : Value) (b : Break) → items_of_length n v ≡ Err b → Led v b
unfolding items_of_length
length_led n v b e = either (items_in v) _ b e (items_led v b) (λ vs h e2. own_test v ValueShape (length vs == n) vs b e2)

test_is : (t : Bool) (vs ws : List Value) → ◌≡◌ {A = Checked (List Value)} (cond t (Ok vs) (broken ValueShape)) (Ok ws) → vs ≡ ws
test_is true vs ws e = cc
test_is false vs ws e = absurd (let h : ⊥ = cc in h)

then_items : (n : ℕ) (v : Value) (p : Checked (List Value)) (ws : List Value) → p ≡ items_in v → (p >>= λ vs. cond (length vs == n) (Ok vs) (broken ValueShape)) ≡ Ok ws → plain_array_in v ≡ Some ws
then_items n v (Ok vs) ws h e = items_are v ws (sym h ∙ ap Ok (test_is (length vs == n) vs ws e))
then_items n v (Err b) ws h e = absurd (let h : ⊥ = cc in h)

pub length_are : (n : ℕ) (v : Value) (ws : List Value) → items_of_length n v ≡ Ok ws → plain_array_in v ≡ Some ws
unfolding items_of_length
length_are n v ws e = then_items n v (items_in v) ws refl e

some_items_led : (v : Value) (b : Break) → some_items_in v ≡ Err b → Led v b
unfolding some_items_in
some_items_led v b e = either (items_in v) _ b e (items_led v b) (λ vs h e2. own_some v vs b e2)

pub some_items_are : (v : Value) (ws : List Value) → some_items_in v ≡ Ok ws → plain_array_in v ≡ Some ws
unfolding some_items_in
some_items_are v ws e = made (items_in v) _ ws e (λ vs h e2. items_are v ws (h ∙ ap Ok (some_is vs ws e2)))

there_by : {A P : Type 0} (check : Value → Checked A) (i : ℕ) (o : Option Value) (x : A) → (or_broken ValueShape o >>= λ w. under (decimal i) (check w)) ≡ Ok x → ((w : Value) → o ≡ Some w → P) → P
there_by check i (Some w) x e k = k w refl
there_by check i None x e k = absurd (let h : ⊥ = cc in h)

-- the items of a list, by what is left of it
at_drop : (all : List Value) (i : ℕ) (x : Value) (xs : List Value) → drop i all ≡ x ∷ xs → slice_get all i ≡ Some x
at_drop [] zero x xs e = absurd (let h : ⊥ = cc in h)
at_drop [] (suc i) x xs e = absurd (let h : ⊥ = cc in h)
at_drop (y ∷ ys) zero x xs e = let h : y ≡ x = cc in ap Some h
at_drop (y ∷ ys) (suc i) x xs e = at_drop ys i x xs e

drop_more : (all : List Value) (i : ℕ) (x : Value) (xs : List Value) → drop i all ≡ x ∷ xs → drop (i + 1) all ≡ xs
drop_more [] zero x xs e = absurd (let h : ⊥ = cc in h)
drop_more [] (suc i) x xs e = absurd (let h : ⊥ = cc in h)
drop_more (y ∷ ys) zero x xs e = cc
drop_more (y ∷ ys) (suc i) x xs e = let k : suc i + 1 ≡ suc (i + 1) = omega arith in ap (λ k. drop k (y ∷ ys)) k ∙ drop_more ys i x xs e

module _ {A : Type 0} (check : Value → Checked A) (leads : BreaksLead check) where
  pub member_led : (v : Value) (es : List ValueEntry) (name : List ℕ) (b : Break) → plain_object_in v ≡ Some es → member check name es ≡ Err b → Led v b
  unfolding member
  member_led v es name b o e =
      either (or_broken ValueShape (named name es)) (λ w. under name (check w)) b e (own_or v ValueShape (named name es) b)
      (λ w h e2. by_name v w es name (check w) b o (is_there ValueShape (named name es) w h) (leads w) e2)

  pub member_if_led : (v : Value) (es : List ValueEntry) (absent : A) (name : List ℕ) (m : Option Value) (b : Break) → plain_object_in v ≡ Some es → named name es ≡ m → member_if check absent name m ≡ Err b → Led v b
  member_if_led v es absent name None b o n e = sound absent b e
  member_if_led v es absent name (Some w) b o n e = by_name v w es name (check w) b o n (leads w) e

  pub member_or_led : (v : Value) (es : List ValueEntry) (absent : A) (name : List ℕ) (b : Break) → plain_object_in v ≡ Some es → member_or check absent name es ≡ Err b → Led v b
  unfolding member_or
  member_or_led v es absent name b o e = member_if_led v es absent name (named name es) b o refl e

  pub item_led : (v : Value) (vs : List Value) (i : ℕ) (b : Break) → plain_array_in v ≡ Some vs → item check i vs ≡ Err b → Led v b
  unfolding item
  item_led v vs i b o e =
      either (or_broken ValueShape (slice_get vs i)) (λ w. under (decimal i) (check w)) b e (own_or v ValueShape (slice_get vs i) b)
      (λ w h e2. by_index v w vs i (check w) b o (is_there ValueShape (slice_get vs i) w h) (leads w) e2)

  -- a sound item is there
  pub item_there : {P : Type 0} (vs : List Value) (i : ℕ) (x : A) → item check i vs ≡ Ok x → ((w : Value) → slice_get vs i ≡ Some w → P) → P
  unfolding item
  item_there vs i x e k = there_by check i (slice_get vs i) x e k

  pub each_led : (v : Value) (all rest : List Value) (i : ℕ) (b : Break) → plain_array_in v ≡ Some all → drop i all ≡ rest → each check i rest ≡ Err b → Led v b
  each_led v all [] i b o d e = sound _ b e
  each_led v all (x ∷ xs) i b o d e =
      either (under (decimal i) (check x)) _ b e (by_index v x all i (check x) b o (at_drop all i x xs d) (leads x)) (λ t h e2.
      either (each check (i + 1) xs) _ b e2 (each_led v all xs (i + 1) b o (drop_more all i x xs d)) (λ ts k e3.
      sound _ b e3))

  pub lists_lead : BreaksLead (list_in check)
  unfolding list_in
  lists_lead v b e = either (items_in v) _ b e (items_led v b) (λ vs h e2. each_led v vs vs 0 b (items_are v vs h) refl e2)

  pub some_lead : BreaksLead (some_in check)
  unfolding some_in
  some_lead v b e = either (some_items_in v) _ b e (some_items_led v b) (λ vs h e2. each_led v vs vs 0 b (some_items_are v vs h) refl e2)

pub texts_lead : BreaksLead text_in
unfolding text_in
texts_lead v b e = own_or v ValueShape (plain_string_in v) b e

pub words_lead : {A : Type 0} (rule : ValueRule) (table : List (List ℕ × A)) → BreaksLead (word_in rule table)
unfolding word_in
words_lead rule table v b e = either (text_in v) _ b e (texts_lead v b) (λ w h e2. own_or v rule (meaning table w) b e2)
