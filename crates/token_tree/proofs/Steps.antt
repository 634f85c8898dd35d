-- Going over a list by its index.
use Rattle.std.proofs.Common.{◌≡◌, ℕ, zero, suc, ◌+◌, ◌<◌, ◌≤◌, List, [], ◌∷◌, ◌++◌, append_assoc, map, drop, length, get_or, Some, None, refl, ap, sym, ◌∙◌, arith, drop-cons, add-one}
use Rattle.std.proofs.lemmas.List.{append-nil, get_or-map, drop_all, length-map}
use Rattle.std.specs.Prelude.{slice_get}

module _ {A : Type 0} where
  -- what is left begins with the item at the index
  pub next : (xs : List A) (i : ℕ) (x : A) → slice_get xs i ≡ Some x → drop i xs ≡ x ∷ drop (i + 1) xs
  next [] i x e = cc
  next (y ∷ xs) zero x e = let h : y ≡ x = cc in ap (λ z. z ∷ xs) h
  next (y ∷ xs) (suc i) x e = let k : suc (i + 1) ≡ suc i + 1 = omega arith in next xs i x e ∙ ap (λ k. x ∷ drop k (y ∷ xs)) k

  -- below the length there is an item
  pub some : (xs : List A) (i : ℕ) → i < length xs → None ≡ slice_get xs i → ⊥
  some [] i h e = omega (arith, h)
  some (y ∷ xs) zero h e = cc
  some (y ∷ xs) (suc i) h e = some xs i (omega (arith, h)) e

  -- at the end nothing is left
  pub none : (xs : List A) (i : ℕ) → i ≡ length xs → drop i xs ≡ []
  none [] zero e = refl
  none [] (suc i) e = refl
  none (y ∷ xs) zero e = absurd (omega arith)
  none (y ∷ xs) (suc i) e = none xs i (omega arith)

  -- an item goes over from what is left to what is done
  pub moves : (done new xs : List A) (i : ℕ) (x y : A) → slice_get xs i ≡ Some x → new ≡ done ++ y ∷ [] → y ≡ x → done ++ drop i xs ≡ xs → new ++ drop (i + 1) xs ≡ xs
  moves done new xs i x y g e h k =
      ap (λ z. z ++ drop (i + 1) xs) (e ∙ ap (λ z. done ++ z ∷ []) h)
      ∙ (append_assoc done (x ∷ []) (drop (i + 1) xs)
      ∙ (ap (λ z. done ++ z) (sym (next xs i x g)) ∙ k))

-- the same in a loop over a slice
pub first_left : {A B : Type 0} (v : A → B) (xs : List A) (i : ℕ) (x : A) → i < length xs → x ≡ get_or xs i x → drop i (map v xs) ≡ v x ∷ drop (i + 1) (map v xs)
first_left v xs i x h e =
    let within : i < length (map v xs) = omega (arith, h, length-map xs v) in
    let cut : drop i (map v xs) ≡ get_or (map v xs) i (v x) ∷ drop (i + 1) (map v xs) = rw add-one (drop-cons (map v xs) i (v x) within) in
    cut ∙ ap (λ y. y ∷ drop (i + 1) (map v xs)) (get_or-map v xs i x (v x) h ∙ ap v (sym e))

pub none_left : {A B : Type 0} (v : A → B) (xs : List A) (i : ℕ) → length xs ≤ i → drop i (map v xs) ≡ []
none_left v xs i h = drop_all i (map v xs) (omega (arith, h, length-map xs v))

-- an item goes over from what is left to what is made
pub made : {A B : Type 0} (v : A → B) (xs : List A) (i : ℕ) (x : A) (done new whole : List B) (y : B) → i < length xs → x ≡ get_or xs i x → new ≡ done ++ y ∷ [] → y ≡ v x
    → done ++ drop i (map v xs) ≡ whole → new ++ drop (i + 1) (map v xs) ≡ whole
made v xs i x done new whole y h e pushed same k =
    ap (λ z. z ++ drop (i + 1) (map v xs)) (pushed ∙ ap (λ z. done ++ z ∷ []) same)
    ∙ (append_assoc done (v x ∷ []) (drop (i + 1) (map v xs))
    ∙ (ap (λ z. done ++ z) (sym (first_left v xs i x h e)) ∙ k))

pub all_made : {A B : Type 0} (v : A → B) (xs : List A) (i : ℕ) (done whole : List B) → length xs ≤ i → done ++ drop i (map v xs) ≡ whole → done ≡ whole
all_made v xs i done whole h k = sym (append-nil done) ∙ (ap (λ z. done ++ z) (sym (none_left v xs i h)) ∙ k)
