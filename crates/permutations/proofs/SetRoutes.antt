-- Where no sets make a ring, a way through sets comes to each set once at most.
use Rattle.std.proofs.Common.{◌≡◌, ◌<◌, ◌≤◌, ◌||◌, ℕ, Bool, true, false, eqb, List, [], ◌∷◌, ◌++◌, append_assoc, append-nil, length, refl, sym, subst, inl, inr, arith}
use Rattle.std.proofs.lemmas.Bool.{cases_eq}
use Rattle.std.proofs.lemmas.Bool.Decides.{nat_tests}
use Rattle.std.proofs.lemmas.Map.Steps.{length-le_from_distinct_below}
use Rattle.std.specs.List.{AllByRecursion, IsDistinct, list_any}
use Rattle.std.specs.Prelude.{◌⊎◌}
use Rattle.ring.specs.Lists.{In, AreApart}
use Rattle.ring.specs.Routes.{IsChain, HasNoRing}

in_or_not : (x : ℕ) (xs : List ℕ) → In x xs ⊎ (In x xs → ⊥)
in_or_not x [] = inr (λ i. i)
in_or_not x (y ∷ ys) = elim (cases_eq x y) [
  | inl e ↦ inl (inl e)
  | inr apart ↦ elim (in_or_not x ys) [ inl i ↦ inl (inr i) | inr out ↦ inr (λ i. elim i [ inl e ↦ apart e | inr j ↦ out j ]) ]
]

pub in_front : {N : Type 0} (xs ys : List N) (x : N) → In x xs → In x (xs ++ ys)
in_front [] ys x j = absurd j
in_front (y ∷ xs) ys x (inl e) = inl e
in_front (y ∷ xs) ys x (inr j) = inr (in_front xs ys x j)

pub in_back : {N : Type 0} (xs ys : List N) (x : N) → In x ys → In x (xs ++ ys)
in_back [] ys x j = j
in_back (y ∷ xs) ys x j = inr (in_back xs ys x j)

pub in_either : {N : Type 0} (xs ys : List N) (x : N) → In x (xs ++ ys) → In x xs ⊎ In x ys
in_either [] ys x j = inr j
in_either (y ∷ xs) ys x (inl e) = inl (inl e)
in_either (y ∷ xs) ys x (inr j) = elim (in_either xs ys x j) [ inl i ↦ inl (inr i) | inr k ↦ inr k ]

leads_front : (needs : ℕ → List ℕ) (at : ℕ) (xs ys : List ℕ) → IsChain needs at (xs ++ ys) → IsChain needs at xs
leads_front needs at [] ys h = tt
leads_front needs at (x ∷ xs) ys h = (h.0, leads_front needs x xs ys h.1)

apart_push : (xs : List ℕ) (x : ℕ) → AreApart xs → (In x xs → ⊥) → AreApart (xs ++ x ∷ [])
apart_push [] x a out = (λ i. i, tt)
apart_push (y ∷ ys) x a out = (
  λ i. elim (in_either ys (x ∷ []) y i) [ inl j ↦ a.0 j | inr j ↦ elim j [ inl e ↦ out (inl (sym e)) | inr none ↦ none ] ],
  apart_push ys x a.1 (λ j. out (inr j)),
)

-- a way from the root that comes back closes
apart_from : (needs : ℕ → List ℕ) (root : ℕ) → HasNoRing needs root → (f rest : List ℕ) → IsChain needs root (f ++ rest) → AreApart (root ∷ f) → AreApart (root ∷ (f ++ rest))
apart_from needs root none f [] leads apart = subst (λ xs. AreApart (root ∷ xs)) (sym (append-nil f)) apart
apart_from needs root none f (x ∷ xs) leads apart = step (in_or_not x (root ∷ f)) (apart_from needs root none (f ++ x ∷ []) xs)
  where
    regroup : (f ++ x ∷ []) ++ xs ≡ f ++ x ∷ xs
    regroup = append_assoc f (x ∷ []) xs

    shorter : IsChain needs root (f ++ x ∷ [])
    shorter = leads_front needs root (f ++ x ∷ []) xs (subst (λ ys. IsChain needs root ys) (sym regroup) leads)

    step : (In x (root ∷ f) ⊎ (In x (root ∷ f) → ⊥))
        → (IsChain needs root ((f ++ x ∷ []) ++ xs) → AreApart (root ∷ (f ++ x ∷ [])) → AreApart (root ∷ ((f ++ x ∷ []) ++ xs)))
        → AreApart (root ∷ (f ++ x ∷ xs))
    step (inl again) more =
        absurd (none (root ∷ (f ++ x ∷ [])) (record {
          steps = (refl, shorter);
          closes = record { front = root ∷ f; last = x; whole = refl; apart = apart; again = again };
        }))
    step (inr out) more =
        subst (λ ys. AreApart (root ∷ ys)) regroup
        (more (subst (λ ys. IsChain needs root ys) (sym regroup) leads) (apart_push (root ∷ f) x apart out))

-- numbers below n that are apart are n at most
distinct : (xs : List ℕ) → AreApart xs → IsDistinct eqb xs
unfolding IsDistinct
distinct [] a = tt
distinct (x ∷ xs) a = (others x xs a.0, distinct xs a.1)
  where
    others : (y : ℕ) (ys : List ℕ) → (In y ys → ⊥) → AllByRecursion (λ z. eqb y z ≡ false) ys
    others y [] out = tt
    others y (z ∷ zs) out = (differ y z (λ e. out (inl e)), others y zs (λ j. out (inr j)))
      where
        differ : (a b : ℕ) → (a ≡ b → ⊥) → eqb a b ≡ false
        differ a b ne = grind (arith, nat_tests)

found : (q : ℕ) (xs : List ℕ) → list_any (eqb q) xs ≡ true → In q xs
found q [] h = cc
found q (x ∷ xs) h = at (eqb q x) refl h (found q xs)
  where
    at : (t : Bool) → eqb q x ≡ t → (t || list_any (eqb q) xs) ≡ true → (list_any (eqb q) xs ≡ true → In q xs) → (q ≡ x) ⊎ In q xs
    at true e k rec = inl (same q x e)
      where
        same : (a b : ℕ) → eqb a b ≡ true → a ≡ b
        same a b p = grind (arith, nat_tests)
    at false e k rec = inr (rec k)

pub apart_within : (xs : List ℕ) (n : ℕ) → AreApart xs → ((w : ℕ) → In w xs → w < n) → length xs ≤ n
apart_within xs n apart below = length-le_from_distinct_below xs n (distinct xs apart) (λ q h. below q (found q xs h))

-- a way from the root to numbers below n passes n of them at most
pub short_way : (needs : ℕ → List ℕ) (root n : ℕ) → HasNoRing needs root → (way : List ℕ) → IsChain needs root way → ((w : ℕ) → In w way → w < n) → length way ≤ n
short_way needs root n none way leads below =
    let apart = apart_from needs root none [] way leads (λ i. i, tt) in
    apart_within way n apart.1 below
