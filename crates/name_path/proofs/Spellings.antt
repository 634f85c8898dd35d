-- A text spells at most one path or place.
use Rattle.std.proofs.Common.{◌≡◌, ◌≢◌, ℕ, List, [], ◌∷◌, ◌++◌, ◌⊎◌, inl, inr, refl, sym, ap, ap₂, ◌∙◌, subst, All, arith, get_or, slice_index}
use Rattle.std.proofs.lemmas.List.Elements.{All-append, All-cons, All-nil, All-head, All-tail}
use Rattle.name_path.specs.Names.{IsName, root_name, AreNames, IsTokenPath}
use Rattle.name_path.specs.Reference.{pointer_text, curly_text, place_text, value_step, SpellsPath, SpellsPlace, SpellsGroup}
use Rattle.name_path.specs.inner.Pieces.{EachLacks, ArePlain, LacksStep, IsValueCut}
use Rattle.name_path.specs.declared.place.Place.{Place}
use Rattle.name_path.proofs.Escaping.{distinct}
use Rattle.name_path.proofs.Joins.{one_pointer, one_curly, apart_texts}

name_plain : (name : List ℕ) → IsName name → All (λ b. b ≢ 46) name
name_plain name is = λ k d h. (is.plain k d h).0

name_lacks : (name : List ℕ) → IsName name → name ≢ value_step
name_lacks name is e = is.first (ap (λ (t : List ℕ). slice_index t 0) e)

root_plain : All (λ b. b ≢ 46) root_name
root_plain =
    let P : ℕ → Type 0 = λ b. b ≢ 46 in
    All-cons P 36 (114 ∷ 111 ∷ 111 ∷ 116 ∷ []) (λ h. omega arith) (All-cons P 114 (111 ∷ 111 ∷ 116 ∷ []) (λ h. omega arith) (All-cons P 111 (111 ∷ 116 ∷ []) (λ h. omega arith)
    (All-cons P 111 (116 ∷ []) (λ h. omega arith) (All-cons P 116 [] (λ h. omega arith) (All-nil P)))))

root_lacks : root_name ≢ value_step
root_lacks e = distinct 114 118 (cc) refl

pub names_plain : (path : List (List ℕ)) → AreNames path → EachLacks 46 path
names_plain path h = λ k d less. name_plain (get_or path k d) (h k d less)

names_lack : (path : List (List ℕ)) → AreNames path → LacksStep value_step path
names_lack path h = λ k d less. name_lacks (get_or path k d) (h k d less)

last_plain : (last : List ℕ) → IsName last ⊎ (last ≡ root_name) → All (λ b. b ≢ 46) last
last_plain last (inl is) = name_plain last is
last_plain last (inr e) = subst (All (λ b. b ≢ 46)) (sym e) root_plain

last_lacks : (last : List ℕ) → IsName last ⊎ (last ≡ root_name) → last ≢ value_step
last_lacks last (inl is) = name_lacks last is
last_lacks last (inr e) = λ f. root_lacks (sym e ∙ f)

some_last : (xs : List (List ℕ)) (x : List ℕ) → xs ++ x ∷ [] ≡ [] → ⊥
some_last [] x e = (cc)
some_last (y ∷ ys) x e = (cc)

pub token_plain : (path : List (List ℕ)) → IsTokenPath path → ArePlain path
token_plain path t = (
  (λ e. some_last t.front t.last (sym t.whole ∙ e)),
  subst (EachLacks 46) (sym t.whole) (All-append (λ text. All (λ b. b ≢ 46) text) t.front (t.last ∷ []) (names_plain t.front t.names)
      (All-cons (λ text. All (λ b. b ≢ 46) text) t.last [] (last_plain t.last t.ends) (All-nil (λ text. All (λ b. b ≢ 46) text)))),
)

token_lacks : (path : List (List ℕ)) → IsTokenPath path → LacksStep value_step path
token_lacks path t =
    subst (LacksStep value_step) (sym t.whole) (All-append (λ text. text ≢ value_step) t.front (t.last ∷ []) (names_lack t.front t.names)
    (All-cons (λ text. text ≢ value_step) t.last [] (last_lacks t.last t.ends) (All-nil (λ text. text ≢ value_step))))

record Same {A : Type 0} (xs ys us vs : List A) : Type 0 where
  front : xs ≡ ys
  back : us ≡ vs

module _ (v : List ℕ) where
  one_cut : (xs ys us vs : List (List ℕ)) → LacksStep v xs → LacksStep v ys → xs ++ v ∷ us ≡ ys ++ v ∷ vs → Same xs ys us vs
  one_cut [] [] us vs h k e = record { front = refl; back = cc }
  one_cut [] (y ∷ ys) us vs h k e = (let f : y ≡ v = cc in absurd (All-head (λ t. t ≢ v) y ys k f))
  one_cut (x ∷ xs) [] us vs h k e = (let f : x ≡ v = cc in absurd (All-head (λ t. t ≢ v) x xs h f))
  one_cut (x ∷ xs) (y ∷ ys) us vs h k e =
      let f : x ≡ y = cc in
      let t : xs ++ v ∷ us ≡ ys ++ v ∷ vs = cc in
      let s = one_cut xs ys us vs (All-tail (λ t. t ≢ v) x xs h) (All-tail (λ t. t ≢ v) y ys k) t in
      record { front = ap (λ (z : List ℕ). z ∷ xs) f ∙ ap (λ (zs : List (List ℕ)). y ∷ zs) s.front; back = s.back }

  no_cut : (xs ys us : List (List ℕ)) → LacksStep v xs → xs ≡ ys ++ v ∷ us → ⊥
  no_cut [] [] us h e = (cc)
  no_cut [] (y ∷ ys) us h e = (cc)
  no_cut (x ∷ xs) [] us h e = (let f : x ≡ v = cc in All-head (λ t. t ≢ v) x xs h f)
  no_cut (x ∷ xs) (y ∷ ys) us h e = (let t : xs ≡ ys ++ v ∷ us = cc in no_cut xs ys us (All-tail (λ t. t ≢ v) x xs h) t)

pub one_path : (text : List ℕ) (path other : List (List ℕ)) → SpellsPath text path → SpellsPath text other → path ≡ other
one_path text path other s t = one_curly path other (token_plain path s.0) (token_plain other t.0) (sym s.1 ∙ t.1)

same_place : (place other : Place) → place.token ≡ other.token → place.trail ≡ other.trail → place ≡ other
same_place place other e f = ap₂ (λ (a b : List (List ℕ)). let p : Place = record { token = a; trail = b } in p) e f

pub one_place : (text : List ℕ) (place other : Place) → SpellsPlace text place → SpellsPlace text other → place ≡ other
one_place text place other s t = both s.1 t.1
  where
    both : (text ≡ place_text place) ⊎ ((place.trail ≡ []) × (text ≡ pointer_text place.token)) → (text ≡ place_text other) ⊎ ((other.trail ≡ []) × (text ≡ pointer_text other.token)) → place ≡ other
    both (inl e) (inl f) =
        let c = one_cut value_step place.token other.token place.trail other.trail (token_lacks place.token s.0) (token_lacks other.token t.0)
        (one_pointer (place.token ++ value_step ∷ place.trail) (other.token ++ value_step ∷ other.trail) (sym e ∙ f)) in
        same_place place other c.front c.back
    both (inl e) (inr f) = absurd (no_cut value_step other.token place.token place.trail (token_lacks other.token t.0) (one_pointer other.token (place.token ++ value_step ∷ place.trail) (sym f.1 ∙ e)))
    both (inr e) (inl f) = absurd (no_cut value_step place.token other.token other.trail (token_lacks place.token s.0) (one_pointer place.token (other.token ++ value_step ∷ other.trail) (sym e.1 ∙ f)))
    both (inr e) (inr f) = same_place place other (one_pointer place.token other.token (sym e.1 ∙ f.1)) (e.0 ∙ sym f.0)

pub one_group : (text : List ℕ) (path other : List (List ℕ)) → SpellsGroup text path → SpellsGroup text other → path ≡ other
one_group text path other s t = both s.1 t.1
  where
    both : (text ≡ pointer_text path) ⊎ ((path ≢ []) × (text ≡ curly_text path)) → (text ≡ pointer_text other) ⊎ ((other ≢ []) × (text ≡ curly_text other)) → path ≡ other
    both (inl e) (inl f) = one_pointer path other (sym e ∙ f)
    both (inl e) (inr f) = absurd (apart_texts path other (sym e ∙ f.1))
    both (inr e) (inl f) = absurd (apart_texts other path (sym f ∙ e.1))
    both (inr e) (inr f) = one_curly path other (e.0, names_plain path s.0) (f.0, names_plain other t.0) (sym e.1 ∙ f.1)

module _ (text : List ℕ) (steps names rest : List (List ℕ)) where
  pub place_found : text ≡ pointer_text steps → IsValueCut steps names rest → IsTokenPath names → SpellsPlace text (record { token = names; trail = rest })
  place_found e c t = (t, elim c.1 [ inl f ↦ inl (e ∙ ap pointer_text f) | inr f ↦ inr (f.1, e ∙ ap pointer_text f.0) ])

  pub no_place : text ≡ pointer_text steps → IsValueCut steps names rest → (IsTokenPath names → ⊥) → (place : Place) → SpellsPlace text place → ⊥
  no_place e c not place s = from c.1 s.1
    where
      from : (steps ≡ names ++ value_step ∷ rest) ⊎ ((steps ≡ names) × (rest ≡ [])) → (text ≡ place_text place) ⊎ ((place.trail ≡ []) × (text ≡ pointer_text place.token)) → ⊥
      from (inl f) (inl g) =
          let cut = one_cut value_step place.token names place.trail rest (token_lacks place.token s.0) c.0 (one_pointer (place.token ++ value_step ∷ place.trail) steps (sym g ∙ e) ∙ f) in
          not (subst IsTokenPath cut.front s.0)
      from (inl f) (inr g) = no_cut value_step place.token names rest (token_lacks place.token s.0) (one_pointer place.token steps (sym g.1 ∙ e) ∙ f)
      from (inr f) (inl g) = no_cut value_step names place.token place.trail c.0 (sym f.0 ∙ one_pointer steps (place.token ++ value_step ∷ place.trail) (sym e ∙ g))
      from (inr f) (inr g) = not (subst IsTokenPath (one_pointer place.token steps (sym g.1 ∙ e) ∙ f.0) s.0)
