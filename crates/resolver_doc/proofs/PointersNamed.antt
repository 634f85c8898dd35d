-- What pointers name.
use Rattle.std.proofs.Common.{◌≡◌, ℕ, suc, ◌+◌, ◌-◌, Bool, true, false, List, [], ◌∷◌, Option, Some, option_map, unwrap_or, cond, inl, inr, refl, sym, ap, ◌∙◌, subst, arith, slice_get}
use Rattle.std.proofs.lemmas.Slice.Eq.{bytes_eq-Decides}
use Rattle.std.specs.List.{position_from}
use Rattle.std.specs.Str.{bytes_eq}
use Rattle.json_span.specs.Tree.{Entry}
use Rattle.name_path.proofs.Joins.{one_pointer}
use Rattle.ring.specs.Lists.{In}
use Rattle.resolver_doc.specs.Document.{pointer}
use Rattle.resolver_doc.specs.Laws.{PointersSpell, PointersFind}
use Rattle.resolver_doc.proofs.RightSets.{found_from}

some_is : {A : Type 0} {x y : A} → Some x ≡ Some y → x ≡ y
some_is e = cc

-- the item at which a test first passes passes it
passes : {K : Type 0} (t : K → Bool) (k : ℕ) (xs : List K) (v : ℕ) (x : K) → position_from t k xs ≡ Some v → slice_get xs (v - k) ≡ Some x → t x ≡ true
passes t k [] v x e g = cc
passes t k (y ∷ ys) v x e g = at (t y) refl e (passes t (k + 1) ys v x)
  where
    at : (b : Bool) → t y ≡ b → cond b (Some k) (position_from t (k + 1) ys) ≡ Some v → (position_from t (k + 1) ys ≡ Some v → slice_get ys (v - (k + 1)) ≡ Some x → t x ≡ true) → t x ≡ true
    at true is h later =
        let same : k ≡ v = some_is h in
        let z : v - k ≡ 0 = omega (arith, same) in
        let here : Some y ≡ Some x = subst (λ i. slice_get (y ∷ ys) i ≡ Some x) z g in
        ap t (sym (some_is here)) ∙ is
    at false is h later =
        let s = found_from t (k + 1) ys v h in
        let behind = s.behind in
        let z : v - k ≡ suc (v - (k + 1)) = omega (arith, behind) in
        later h (subst (λ i. slice_get (y ∷ ys) i ≡ Some x) z g)

pub pointers_spell : PointersSpell
pointers_spell part es text v e =
    let s = found_from (λ x. bytes_eq (pointer part x) text) 0 es v e in
    let z : v - 0 ≡ v = omega arith in
    let t = passes (λ x. bytes_eq (pointer part x) text) 0 es v s.item e s.is in
    (s.item, subst (λ i. slice_get es i ≡ Some s.item) z s.is, sym ((bytes_eq-Decides (pointer part s.item) text).0 t))

false_true : false ≡ true → ⊥
false_true h = cc

-- a list with an item that passes has a first one
finds : {K : Type 0} (t : K → Bool) (k : ℕ) (xs : List K) (x : K) → In x xs → t x ≡ true → (v : ℕ) × (position_from t k xs ≡ Some v)
finds t k [] x i e = absurd i
finds t k (y ∷ ys) x (inl same) e = at (t y) (sym (ap t same) ∙ e)
  where
    at : (b : Bool) → b ≡ true → (v : ℕ) × (cond b (Some k) (position_from t (k + 1) ys) ≡ Some v)
    at true h = (k, refl)
    at false h = absurd (false_true h)
finds t k (y ∷ ys) x (inr j) e = at (t y) (finds t (k + 1) ys x j e)
  where
    at : (b : Bool) → (v : ℕ) × (position_from t (k + 1) ys ≡ Some v) → (v : ℕ) × (cond b (Some k) (position_from t (k + 1) ys) ≡ Some v)
    at true later = (k, refl)
    at false later = later

same_names : (part : List ℕ) (e x : Entry) → pointer part e ≡ pointer part x → x.name ≡ e.name
same_names part e x h = inner (one_pointer (part ∷ e.name ∷ []) (part ∷ x.name ∷ []) h)
  where
    inner : {p q : List ℕ} → part ∷ p ∷ [] ≡ part ∷ q ∷ [] → q ≡ p
    inner g = cc

pub pointers_find : PointersFind
pointers_find part es e i =
    let (v, is) = finds (λ x. bytes_eq (pointer part x) (pointer part e)) 0 es e i ((bytes_eq-Decides (pointer part e) (pointer part e)).1 refl) in
    let (x, at, spelled) = pointers_spell part es (pointer part e) v is in
    (v, is, ap (λ (o : Option Entry). unwrap_or (option_map (λ y. y.name) o) []) at ∙ same_names part e x spelled)
