-- Names that rise.
use Rattle.std.proofs.Common.{◌≡◌, ◌≤◌, ◌<◌, ◌+◌, ◌-◌, ◌∙◌, ℕ, List, [], ◌∷◌, length, drop, get_or, map, inl, inr, refl, sym, ap, subst, arith, Ordering, Less, Equal, Greater}
use Rattle.std.proofs.lemmas.List.{drop_more, length-drop, length-map}
use Rattle.std.specs.List.{AllByRecursion}
use Rattle.std.specs.List.Sorted.{IsStrictlySortedBy}
use Rattle.std.specs.Cmp.Lexicographic.{nat_list_cmp_total}
use Rattle.ring.specs.Lists.{In, AreApart}
use Rattle.tk_io.specs.Order.{text_cmp}
use Rattle.std.specs.Ordering.{ordering_reverse}

itself : (o : Ordering) → o ≡ ordering_reverse o → o ≡ Equal
itself Less e = cc
itself Equal e = refl
itself Greater e = cc

pub tied : (p : List ℕ) → text_cmp p p ≡ Equal
tied p = itself (text_cmp p p) (nat_list_cmp_total.antisymm p p)

pub less_self : (n : List ℕ) → text_cmp n n ≡ Less → ⊥
less_self n h = let e = tied n in cc

pub not_in : (n : List ℕ) (ns : List (List ℕ)) → AllByRecursion (λ m. text_cmp n m ≡ Less) ns → In n ns → ⊥
not_in n [] h i = i
not_in n (m ∷ ms) h (inl e) = less_self n (subst (λ z. text_cmp n z ≡ Less) (sym e) h.0)
not_in n (m ∷ ms) h (inr i) = not_in n ms h.1 i

pub rising_apart : (names : List (List ℕ)) → IsStrictlySortedBy text_cmp names → AreApart names
unfolding IsStrictlySortedBy
rising_apart [] h = tt
rising_apart (n ∷ ns) h = (not_in n ns h.0, rising_apart ns h.1)

pub all_above : (x y : List ℕ) (ys : List (List ℕ)) → text_cmp x y ≡ Less → AllByRecursion (λ z. text_cmp y z ≡ Less) ys → AllByRecursion (λ z. text_cmp x z ≡ Less) ys
all_above x y [] h all = tt
all_above x y (z ∷ zs) h all = (nat_list_cmp_total.trans x y z h all.0, all_above x y zs h all.1)

rising_more : (x y : List ℕ) (ys : List (List ℕ)) → text_cmp x y ≡ Less → IsStrictlySortedBy text_cmp (y ∷ ys) → IsStrictlySortedBy text_cmp (x ∷ y ∷ ys)
unfolding IsStrictlySortedBy
rising_more x y ys h s = ((h, all_above x y ys h s.0), s)

short_rises : (ns : List (List ℕ)) → length ns ≤ 1 → IsStrictlySortedBy text_cmp ns
unfolding IsStrictlySortedBy
short_rises [] h = tt
short_rises (n ∷ []) h = (tt, tt)
short_rises (n ∷ m ∷ ms) h = absurd (omega (arith, h))

module _ {X : Type 0} (v : X → List ℕ) (xs : List X) where
  -- what rises from a place on rises from the place before
  abbrev pub RisesFrom : ℕ → Type 0
  RisesFrom i = IsStrictlySortedBy text_cmp (map v (drop i xs))

  pub one_before : (i : ℕ) (x y : X) → 1 ≤ i → i < length xs → x ≡ get_or xs (i - 1) x → y ≡ get_or xs i y → text_cmp (v x) (v y) ≡ Less → RisesFrom i → RisesFrom (i - 1)
  one_before i x y low high e f h s =
      let Sorted : List X → Type 0 = λ l. IsStrictlySortedBy text_cmp (map v l) in
      let here : drop i xs ≡ y ∷ drop (i + 1) xs = drop_more xs i y high ∙ ap (λ (z : X). z ∷ drop (i + 1) xs) (sym f) in
      let back : drop (i - 1) xs ≡ x ∷ drop ((i - 1) + 1) xs = drop_more xs (i - 1) x (omega (arith, low, high)) ∙ ap (λ (z : X). z ∷ drop ((i - 1) + 1) xs) (sym e) in
      let same : (i - 1) + 1 ≡ i = omega (arith, low) in
      let whole : drop (i - 1) xs ≡ x ∷ y ∷ drop (i + 1) xs = back ∙ ap (λ (l : List X). x ∷ l) (ap (λ k. drop k xs) same ∙ here) in
      subst Sorted (sym whole) (rising_more (v x) (v y) (map v (drop (i + 1) xs)) h (subst Sorted here s))

  pub at_end : (i : ℕ) → length xs ≤ i → RisesFrom (i - 1)
  at_end i h = short_rises (map v (drop (i - 1) xs)) (omega (arith, h, length-map (drop (i - 1) xs) v, length-drop (i - 1) xs))
