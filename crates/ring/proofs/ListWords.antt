-- What is one of a list stands at a place of it, and what is apart is so at each two places.
use Rattle.std.proofs.Common.{◌≢◌, ℕ, zero, suc, ◌<◌, List, [], ◌∷◌, length, get_or, arith}
use Rattle.std.proofs.Common.{inl, inr, refl, sym, subst}
use Rattle.std.specs.List.{Contains, AllPairs}
use Rattle.ring.specs.Lists.{In, AreApart}

module _ {N : Type 0} where
  pub in_has_place : (x : N) (xs : List N) → In x xs → Contains xs x
  in_has_place x [] i = absurd i
  in_has_place x (y ∷ ys) (inl e) = (0, omega arith, sym e)
  in_has_place x (y ∷ ys) (inr i) =
      let c = in_has_place x ys i in
      (suc c.0, omega (arith, c.1), c.2)

  -- what stands at a place of the list
  at_place : (xs : List N) (k : ℕ) (d : N) → k < length xs → In (get_or xs k d) xs
  at_place [] k d h = absurd (omega arith)
  at_place (y ∷ ys) zero d h = inl refl
  at_place (y ∷ ys) (suc k) d h = inr (at_place ys k d (omega arith))

  pub has_place_in : (x : N) (xs : List N) → Contains xs x → In x xs
  has_place_in x xs c = subst (λ (y : N). In y xs) c.2 (at_place xs c.0 x c.1)

  pub apart_at_places : (xs : List N) → AreApart xs → AllPairs (λ x y. x ≢ y) xs
  apart_at_places [] a i j d h k e = absurd (omega arith)
  apart_at_places (x ∷ xs) a i zero d h k e = absurd (omega arith)
  apart_at_places (x ∷ xs) a zero (suc j) d h k e =
      a.0 (subst (λ (y : N). In y xs) (sym e) (at_place xs j d (omega arith)))
  apart_at_places (x ∷ xs) a (suc i) (suc j) d h k e = apart_at_places xs a.1 i j d (omega arith) (omega arith) e

  pub places_apart : (xs : List N) → AllPairs (λ x y. x ≢ y) xs → AreApart xs
  places_apart [] p = tt
  places_apart (x ∷ xs) p = (
    (λ i. (
        let c = in_has_place x xs i in
        p 0 (suc c.0) x (omega arith) (omega (arith, c.1)) (sym c.2))),
    places_apart xs (λ i j d h k. p (suc i) (suc j) d (omega arith) (omega arith)),
  )
