-- Lists of which no two are alike.
use Rattle.std.proofs.Common.{◌≢◌, ◌≤◌, List, [], ◌∷◌, ◌++◌, length, length-append, arith}
use Rattle.std.proofs.Common.{inl, inr, refl, sym, ap, subst}
use Rattle.ring.specs.Lists.{In, AreApart}
use Rattle.ring.specs.Routes.{Closes}
use Rattle.ring.proofs.Ends.{in_last, in_left, in_right, in_cases, split}

module _ {N : Type 0} where
  pub not_again : (front : List N) (last : N) → AreApart (front ++ last ∷ []) → In last front → ⊥
  not_again [] last a i = i
  not_again (x ∷ xs) last a (inl p) = a.0 (subst (λ (z : N). In z (xs ++ last ∷ [])) p (in_last xs last))
  not_again (x ∷ xs) last a (inr i) = not_again xs last a.1 i

  pub apart_left : (xs ys : List N) → AreApart (xs ++ ys) → AreApart xs
  apart_left [] ys a = tt
  apart_left (x ∷ xs) ys a = ((λ i. a.0 (in_left xs ys x i)), apart_left xs ys a.1)

  -- No closed route is apart.
  pub apart_not_closed : (route : List N) → AreApart route → Closes route → ⊥
  apart_not_closed route a c = not_again c.front c.last (subst AreApart c.whole a) c.again

  -- No closed route is a part of what is apart.
  pub not_closed : (route more : List N) → AreApart (route ++ more) → Closes route → ⊥
  not_closed route more a c = apart_not_closed route (apart_left route more a) c

  pub apart_push : (xs : List N) (x : N) → AreApart xs → (In x xs → ⊥) → AreApart (xs ++ x ∷ [])
  apart_push [] x a n = ((λ i. i), tt)
  apart_push (y ∷ ys) x a n = (
    (λ i. elim (in_cases ys (x ∷ []) y i) [
      | inl j ↦ a.0 j
      | inr j ↦ elim j [ inl p ↦ n (inl (sym p)) | inr z ↦ absurd z ]
    ]),
    apart_push ys x a.1 (λ i. n (inr i)),
  )

  in_others : (before after : List N) (x v : N) → In v (before ++ x ∷ after) → v ≢ x → In v (before ++ after)
  in_others before after x v i n = elim (in_cases before (x ∷ after) v i) [
    | inl j ↦ in_left before after v j
    | inr j ↦ elim j [ inl p ↦ absurd (n p) | inr k ↦ in_right before after v k ]
  ]

  -- A list of which no two are alike is no longer than one that has them all.
  pub apart_fit : (xs ys : List N) → AreApart xs → ((v : N) → In v xs → In v ys) → length xs ≤ length ys
  apart_fit [] ys a h = omega arith
  apart_fit (x ∷ xs) ys a h =
      let s = split ys x (h x (inl refl)) in
      let fewer : length xs ≤ length (s.before ++ s.after) = apart_fit xs (s.before ++ s.after) a.1
      (λ v i. in_others s.before s.after x v (subst (λ (zs : List N). In v zs) s.whole (h v (inr i)))
      (λ e. a.0 (subst (λ (z : N). In z xs) e i))) in
      omega (arith, ap length s.whole, length-append s.before s.after, length-append s.before (x ∷ s.after))
