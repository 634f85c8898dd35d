use Rattle.std.proofs.Common.{◌≡◌, List, [], ◌∷◌, ◌++◌, ◌⊎◌, inl, inr, refl, sym, ap, subst, append_assoc}
use Rattle.ring.specs.Lists.{In}
use Rattle.ring.specs.Routes.{IsChain, IsRoute, IsClosedRoute, HasNoRing}
use Rattle.ring.specs.Order.{Follows}
pub use Rattle.ring.specs.Existence.{IsGrounded as Ends, grounded as ends}

pub ends_next : {N : Type 0} (needs : N → List N) (v w : N) → Ends needs v → In w (needs v) → Ends needs w
ends_next needs v w (ends f) i = f w i

append_nil : {N : Type 0} (xs : List N) → xs ++ [] ≡ xs
append_nil [] = refl
append_nil (x ∷ xs) = ap (λ ys. x ∷ ys) (append_nil xs)

pub in_last : {N : Type 0} (xs : List N) (x : N) → In x (xs ++ x ∷ [])
in_last [] x = inl refl
in_last (y ∷ ys) x = inr (in_last ys x)

pub in_left : {N : Type 0} (xs ys : List N) (x : N) → In x xs → In x (xs ++ ys)
in_left [] ys x i = absurd i
in_left (y ∷ xs) ys x (inl e) = inl e
in_left (y ∷ xs) ys x (inr i) = inr (in_left xs ys x i)

pub in_right : {N : Type 0} (xs ys : List N) (x : N) → In x ys → In x (xs ++ ys)
in_right [] ys x i = i
in_right (y ∷ xs) ys x i = inr (in_right xs ys x i)

pub in_cases : {N : Type 0} (xs ys : List N) (x : N) → In x (xs ++ ys) → In x xs ⊎ In x ys
in_cases [] ys x i = inr i
in_cases (y ∷ xs) ys x (inl e) = inl (inl e)
in_cases (y ∷ xs) ys x (inr i) = elim (in_cases xs ys x i) [ inl j ↦ inl (inr j) | inr j ↦ inr j ]

pub record Split {N : Type 0} (x : N) (xs : List N) : Type 0 where
  pub before : List N
  pub after : List N
  pub whole : xs ≡ before ++ x ∷ after

pub split : {N : Type 0} (xs : List N) (x : N) → In x xs → Split x xs
split [] x i = absurd i
split (y ∷ ys) x (inl e) = record { before = []; after = ys; whole = ap (λ z. z ∷ ys) (sym e) }
split (y ∷ ys) x (inr i) =
    let s = split ys x i in
    record { before = y ∷ s.before; after = s.after; whole = ap (λ zs. y ∷ zs) s.whole }

module _ {N : Type 0} (needs : N → List N) where
  -- what follows a node that ends, ends
  pub ends_along : (at : N) (xs : List N) → Ends needs at → IsChain needs at xs → (v : N) → In v xs → Ends needs v
  ends_along at [] e l v i = absurd i
  ends_along at (x ∷ xs) e l v (inl p) = subst (Ends needs) (sym p) (ends_next needs at x e l.0)
  ends_along at (x ∷ xs) e l v (inr i) = ends_along x xs (ends_next needs at x e l.0) l.1 v i

  -- the way from a node after another on a route
  pub leads_tail : (at : N) (xs : List N) (x : N) (ys : List N) → IsChain needs at (xs ++ x ∷ ys) → IsChain needs x ys
  leads_tail at [] x ys l = l.1
  leads_tail at (z ∷ xs) x ys l = leads_tail z xs x ys l.1

  -- up to a node, and one step on from there
  leads_cut : (at : N) (xs : List N) (v : N) (ys : List N) (y : N) → IsChain needs at (xs ++ v ∷ ys) → In y (needs v) → IsChain needs at (xs ++ v ∷ (y ∷ []))
  leads_cut at [] v ys y l i = (l.0, (i, tt))
  leads_cut at (z ∷ xs) v ys y l i = (l.0, leads_cut z xs v ys y l.1 i)

  -- No way from a node that ends comes back to it.
  pub no_return : (v : N) → Ends needs v → (before after : List N) → IsChain needs v (before ++ v ∷ after) → ⊥
  no_return v (ends f) [] after l = no_return v (f v l.0) [] after l
  no_return v (ends f) (x ∷ xs) after l =
      no_return x (f x l.0) (xs ++ v ∷ []) [] (subst (IsChain needs x) (sym (append_assoc xs (v ∷ []) (x ∷ []))) (leads_cut x xs v after x l.1 l.0))

  -- the last of a route ends where any of it does
  last_ends : (at : N) (xs : List N) (x : N) → IsChain needs at (xs ++ x ∷ []) → (v : N) → In v (at ∷ (xs ++ x ∷ [])) → Ends needs v → Ends needs x
  last_ends at xs x l v (inl p) e = ends_along at (xs ++ x ∷ []) (subst (Ends needs) p e) l x (in_last xs x)
  last_ends at [] x l v (inr (inl p)) e = subst (Ends needs) p e
  last_ends at [] x l v (inr (inr i)) e = absurd i
  last_ends at (y ∷ ys) x l v (inr i) e = last_ends y ys x l.1 v i e

  -- No node of a closed route ends.
  pub closed_alive : (root : N) (route : List N) → IsClosedRoute needs root route → (v : N) → In v route → Ends needs v → ⊥
  closed_alive root route c v i e = alive c.closes.front c.closes.last (subst (IsRoute needs root) c.closes.whole c.steps) c.closes.again (subst (λ (r : List N). In v r) c.closes.whole i)
    where
      alive : (front : List N) (last : N) → IsRoute needs root (front ++ last ∷ []) → In last front → In v (front ++ last ∷ []) → ⊥
      alive [] last r again j = absurd again
      alive (x ∷ xs) last r again j = back x xs last r.1 again (last_ends x xs last r.1 v j e)
        where
          back : (x : N) (xs : List N) (last : N) → IsChain needs x (xs ++ last ∷ []) → In last (x ∷ xs) → Ends needs last → ⊥
          back x xs last l (inl p) f = no_return x (subst (Ends needs) p f) xs [] (subst (λ (z : N). IsChain needs x (xs ++ z ∷ [])) p l)
          back x [] last l (inr i) f = absurd i
          back x (y ∷ ys) last l (inr i) f = back y ys last l.1 i f

  pub no_ring : (root : N) → Ends needs root → HasNoRing needs root
  no_ring root e route c = begins route c.steps c
    where
      begins : (route : List N) → IsRoute needs root route → IsClosedRoute needs root route → ⊥
      begins [] r c = absurd r
      begins (x ∷ xs) r c = closed_alive root (x ∷ xs) c x (inl refl) (subst (Ends needs) (sym r.0) e)

  -- What stands in an order ends.
  pub order_ends : (seen order : List N) → ((w : N) → In w seen → Ends needs w) → Follows needs seen order → (w : N) → In w order → Ends needs w
  order_ends seen [] known f w i = absurd i
  order_ends seen (v ∷ vs) known f w (inl p) = subst (Ends needs) (sym p) (ends (λ x j. known x (f.0 x j)))
  order_ends seen (v ∷ vs) known f w (inr i) = order_ends (seen ++ v ∷ []) vs more f.1 w i
    where
      more : (x : N) → In x (seen ++ v ∷ []) → Ends needs x
      more x j = elim (in_cases seen (v ∷ []) x j) [
        | inl k ↦ known x k
        | inr k ↦ elim k [ inl p ↦ subst (Ends needs) (sym p) (ends (λ y l. known y (f.0 y l))) | inr z ↦ absurd z ]
      ]

  -- one more, all of whose needs stand before it
  pub follows_push : (seen vs : List N) (v : N) → Follows needs seen vs → ((w : N) → In w (needs v) → In w (seen ++ vs)) → Follows needs seen (vs ++ v ∷ [])
  follows_push seen [] v f h = ((λ w i. subst (λ (xs : List N). In w xs) (append_nil seen) (h w i)), tt)
  follows_push seen (x ∷ xs) v f h = (f.0, follows_push (seen ++ x ∷ []) xs v f.1 (λ w i. subst (λ (ys : List N). In w ys) (sym (append_assoc seen (x ∷ []) xs)) (h w i)))
