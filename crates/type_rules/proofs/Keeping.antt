-- What is found keeps what its parts keep. The crates above may use this file.
use Rattle.std.proofs.Common.{◌≡◌, ◌≢◌, ℕ, ◌+◌, List, [], ◌∷◌, Option, Some, None, Ok, Err, refl, ap, subst, ◌∙◌}
use Rattle.std.specs.Prelude.{slice_get}
use Rattle.std.specs.Fmt.{decimal}
use Rattle.std.specs.List.{AllByRecursion}
use Rattle.json_span.specs.PlainView.{Value, ValueEntry}
use Rattle.type_rules.specs.declared.fault.ValueRule.{ValueRule}
use Rattle.type_rules.specs.declared.fault.ValueRule.TheVariants.{ValueShape}
use Rattle.type_rules.specs.Checked.{Checked, or_broken, under, ◌>>=◌}
use Rattle.type_rules.specs.Forms.{items_in, one_or_more, some_items_in, named, member, member_if, member_or, item, each, list_in, some_in}

-- two checks, of which the second sees what the first found
pub made : {A B P : Type 0} (p : Checked A) (f : A → Checked B) (b : B) → (p >>= f) ≡ Ok b → ((a : A) → p ≡ Ok a → f a ≡ Ok b → P) → P
made (Ok a) f b e k = k a refl e
made (Err x) f b e k = absurd (let h : ⊥ = cc in h)

pub ok_is : {A : Type 0} (x y : A) → ◌≡◌ {A = Checked A} (Ok x) (Ok y) → x ≡ y
ok_is x y e = cc

-- a fact of what is found
pub found : {A : Type 0} (P : A → Type 0) (x y : A) → ◌≡◌ {A = Checked A} (Ok x) (Ok y) → P x → P y
found P x y e h = subst P (ok_is x y e) h

pub from_some : {A : Type 0} (rule : ValueRule) (o : Option A) (x : A) → or_broken rule o ≡ Ok x → o ≡ Some x
from_some rule (Some y) x e = ap Some (ok_is y x e)
from_some rule None x e = absurd (let h : ⊥ = cc in h)

pub from_part : {A : Type 0} (step : List ℕ) (p : Checked A) (x : A) → under step p ≡ Ok x → p ≡ Ok x
from_part step (Ok y) x e = e
from_part step (Err b) x e = absurd (let h : ⊥ = cc in h)

module _ {A : Type 0} (check : Value → Checked A) (P : A → Type 0) (each_keeps : (v : Value) (x : A) → check v ≡ Ok x → P x) where
  pub member_keeps : (name : List ℕ) (es : List ValueEntry) (x : A) → member check name es ≡ Ok x → P x
  unfolding member
  member_keeps name es x e = made (or_broken ValueShape (named name es)) (λ v. under name (check v)) x e (λ v h k. each_keeps v x (from_part name (check v) x k))

  pub item_keeps : (i : ℕ) (vs : List Value) (x : A) → item check i vs ≡ Ok x → P x
  unfolding item
  item_keeps i vs x e = made (or_broken ValueShape (slice_get vs i)) (λ v. under (decimal i) (check v)) x e (λ v h k. each_keeps v x (from_part (decimal i) (check v) x k))

  pub member_if_keeps : (absent : A) (name : List ℕ) (o : Option Value) (x : A) → P absent → member_if check absent name o ≡ Ok x → P x
  member_if_keeps absent name None x h e = found P absent x e h
  member_if_keeps absent name (Some v) x h e = each_keeps v x (from_part name (check v) x e)

  pub member_or_keeps : (absent : A) (name : List ℕ) (es : List ValueEntry) (x : A) → P absent → member_or check absent name es ≡ Ok x → P x
  unfolding member_or
  member_or_keeps absent name es x h e = member_if_keeps absent name (named name es) x h e

  pub each_keep : (i : ℕ) (vs : List Value) (xs : List A) → each check i vs ≡ Ok xs → AllByRecursion P xs
  each_keep i [] xs e = found (AllByRecursion P) [] xs e tt
  each_keep i (v ∷ vs) xs e =
      made (under (decimal i) (check v)) _ xs e (λ x h e2.
      made (each check (i + 1) vs) _ xs e2 (λ ys k e3.
      found (AllByRecursion P) (x ∷ ys) xs e3 (each_keeps v x (from_part (decimal i) (check v) x h), each_keep (i + 1) vs ys k)))

  pub list_keeps : (v : Value) (xs : List A) → list_in check v ≡ Ok xs → AllByRecursion P xs
  unfolding list_in
  list_keeps v xs e = made (items_in v) _ xs e (λ vs h e2. each_keep 0 vs xs e2)

  pub some_keep : (v : Value) (xs : List A) → some_in check v ≡ Ok xs → AllByRecursion P xs
  unfolding some_in
  some_keep v xs e = made (some_items_in v) _ xs e (λ vs h e2. each_keep 0 vs xs e2)

-- a list of one or more has an item
not_none : {A : Type 0} (check : Value → Checked A) (vs : List Value) (xs : List A) (ws : List Value) → one_or_more vs ≡ Ok ws → each check 0 ws ≡ Ok xs → xs ≢ []
not_none check [] xs ws h e n = absurd (let k : ⊥ = cc in k)
not_none {A} check (v ∷ vs) xs ws h e n =
    let k : each check 0 (v ∷ vs) ≡ Ok xs = ap (each check 0) (ok_is (v ∷ vs) ws h) ∙ e in
    made (under (decimal 0) (check v)) _ xs k (λ x i e2.
    made (each check 1 vs) _ xs e2 (λ ys j e3.
    let P : List A → Type 0 = λ z. z ≢ [] in found P (x ∷ ys) xs e3 (λ m. cc) n))

pub some_is_there : {A : Type 0} (check : Value → Checked A) (v : Value) (xs : List A) → some_in check v ≡ Ok xs → xs ≢ []
unfolding some_in some_items_in
some_is_there check v xs e =
    made (some_items_in v) _ xs e (λ ws h e2.
    made (items_in v) _ ws h (λ vs k h2.
    not_none check vs xs ws h2 e2))
