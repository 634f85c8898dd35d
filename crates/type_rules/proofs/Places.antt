-- Going over a list item by item.
use Rattle.std.proofs.Common.{◌≡◌, ℕ, ◌+◌, ◌<◌, ◌≤◌, List, [], ◌∷◌, map, drop, length, get_or, Some, true, false, cond, ap, sym, subst, ◌∙◌, arith, drop-cons, add-one}
use Rattle.std.proofs.lemmas.List.{get_or-map, drop_all, length-map}
use Rattle.std.specs.Str.{bytes_eq}
use Rattle.json_span.specs.PlainView.{ValueEntry}
use Rattle.type_rules.specs.Forms.{named}

module _ {A B : Type 0} (view : A → B) (xs : List A) (ys : List B) (i : ℕ) (same : map view xs ≡ ys) where
  -- the item at the index is the first of those left
  pub first_left : (x : A) → i < length xs → x ≡ get_or xs i x → drop i ys ≡ view x ∷ drop (i + 1) ys
  first_left x h e =
      let within : i < length (map view xs) = omega (arith, h, length-map xs view) in
      let cut : drop i (map view xs) ≡ get_or (map view xs) i (view x) ∷ drop (i + 1) (map view xs) = rw add-one (drop-cons (map view xs) i (view x) within) in
      subst (λ zs. drop i zs ≡ view x ∷ drop (i + 1) zs) same (cut ∙ ap (λ y. y ∷ drop (i + 1) (map view xs)) (get_or-map view xs i x (view x) h ∙ ap view (sym e)))

  -- at the end none is left
  pub none_left : length xs ≤ i → drop i ys ≡ []
  none_left h = subst (λ zs. drop i zs ≡ []) same (drop_all i (map view xs) (omega (arith, h, length-map xs view)))

-- what has a name, member by member
module _ (name : List ℕ) (es : List ValueEntry) (i : ℕ) (e : ValueEntry) (first : drop i es ≡ e ∷ drop (i + 1) es) where
  pub named_here : bytes_eq e.name name ≡ true → named name (drop i es) ≡ Some e.value
  named_here t = ap (named name) first ∙ ap (λ b. cond b (Some e.value) (named name (drop (i + 1) es))) t

  pub named_later : bytes_eq e.name name ≡ false → named name (drop i es) ≡ named name (drop (i + 1) es)
  named_later t = ap (named name) first ∙ ap (λ b. cond b (Some e.value) (named name (drop (i + 1) es))) t
