-- A graph has one first ring from a root.
use Rattle.std.proofs.Common.{◌≡◌, List, [], ◌∷◌, ◌++◌, inl, inr, refl, sym, ap, ◌∙◌, subst, append_assoc}
use Rattle.ring.specs.Lists.{In, AreApart}
use Rattle.ring.specs.Routes.{Precedes, IsRoute, Closes, NotAfter, IsNotAfter, IsFirstClosedRoute, IsPartOf, IsRing}

precedes_one : {N : Type 0} (x y : N) (zs : List N) → Precedes x y zs → Precedes y x zs → ⊥
precedes_one x y [] p q = absurd p
precedes_one x y (z ∷ zs) p q = elim p.1 [
  | inl e ↦ q.0 e
  | inr p' ↦ elim q.1 [ inl e ↦ p.0 e | inr q' ↦ precedes_one x y zs p' q' ]
]

module _ {N : Type 0} (needs : N → List N) where
  both_ways : (at : N) (xs ys : List N) → NotAfter needs at xs ys → NotAfter needs at ys xs → xs ≡ ys
  both_ways at [] [] n m = refl
  both_ways at [] (y ∷ ys) n m = absurd m
  both_ways at (x ∷ xs) [] n m = absurd n
  both_ways at (x ∷ xs) (y ∷ ys) (inl p) (inl q) = absurd (precedes_one x y (needs at) p q)
  both_ways at (x ∷ xs) (y ∷ ys) (inl p) (inr q) = absurd (precedes_one x y (needs at) p (subst (λ (z : N). Precedes z x (needs at)) (sym q.0) (subst (λ (z : N). Precedes x z (needs at)) q.0 p)))
  both_ways at (x ∷ xs) (y ∷ ys) (inr p) (inl q) = absurd (precedes_one y x (needs at) q (subst (λ (z : N). Precedes z y (needs at)) (sym p.0) (subst (λ (z : N). Precedes y z (needs at)) p.0 q)))
  both_ways at (x ∷ xs) (y ∷ ys) (inr p) (inr q) =
      ap (λ (zs : List N). x ∷ zs) (both_ways y xs ys p.1 (subst (λ (z : N). NotAfter needs z ys xs) p.0 q.1)) ∙ ap (λ (z : N). z ∷ ys) p.0

  routes_agree : (root : N) (r s : List N) → IsRoute needs root r → IsRoute needs root s → IsNotAfter needs r s → IsNotAfter needs s r → r ≡ s
  routes_agree root [] s h k n m = absurd h
  routes_agree root (x ∷ xs) [] h k n m = absurd k
  routes_agree root (x ∷ xs) (y ∷ ys) h k n m =
      let e : x ≡ y = h.0 ∙ sym k.0 in
      ap (λ (zs : List N). x ∷ zs) (both_ways y xs ys n (subst (λ (z : N). NotAfter needs z ys xs) e m)) ∙ ap (λ (z : N). z ∷ ys) e

  pub one_route : (root : N) (r s : List N) → IsFirstClosedRoute needs root r → IsFirstClosedRoute needs root s → r ≡ s
  one_route root r s f g = routes_agree root r s f.closed.steps g.closed.steps (f.first s g.closed) (g.first r f.closed)

one_front : {N : Type 0} (xs ys : List N) (x y : N) → xs ++ x ∷ [] ≡ ys ++ y ∷ [] → xs ≡ ys
one_front [] [] x y e = refl
one_front [] (z ∷ []) x y e = absurd (cc)
one_front [] (z ∷ w ∷ ys) x y e = absurd (cc)
one_front (z ∷ []) [] x y e = absurd (cc)
one_front (z ∷ w ∷ xs) [] x y e = absurd (cc)
one_front {N} (z ∷ xs) (w ∷ ys) x y e =
    let h : z ≡ w = cc in
    let t : xs ++ x ∷ [] ≡ ys ++ y ∷ [] = cc in
    ap (λ (v : N). v ∷ xs) h ∙ ap (λ (vs : List N). w ∷ vs) (one_front xs ys x y t)

one_last : {N : Type 0} (xs ys : List N) (x y : N) → xs ++ x ∷ [] ≡ ys ++ y ∷ [] → x ≡ y
one_last [] [] x y e = cc
one_last [] (z ∷ []) x y e = absurd (cc)
one_last [] (z ∷ w ∷ ys) x y e = absurd (cc)
one_last (z ∷ []) [] x y e = absurd (cc)
one_last (z ∷ w ∷ xs) [] x y e = absurd (cc)
one_last (z ∷ xs) (w ∷ ys) x y e =
    let t : xs ++ x ∷ [] ≡ ys ++ y ∷ [] = cc in
    one_last xs ys x y t

in_middle : {N : Type 0} (xs ys : List N) (x : N) → In x (xs ++ x ∷ ys)
in_middle [] ys x = inl refl
in_middle (z ∷ xs) ys x = inr (in_middle xs ys x)

-- Where no two are alike, what follows a node is one.
one_rest : {N : Type 0} (xs ys : List N) (x : N) (us vs : List N) → AreApart (xs ++ x ∷ us) → xs ++ x ∷ us ≡ ys ++ x ∷ vs → us ≡ vs
one_rest [] [] x us vs a e = cc
one_rest {N} [] (y ∷ ys) x us vs a e =
    let t : us ≡ ys ++ x ∷ vs = cc in
    absurd (a.0 (subst (λ (zs : List N). In x zs) (sym t) (in_middle ys vs x)))
one_rest {N} (z ∷ xs) [] x us vs a e =
    let h : z ≡ x = cc in
    absurd (a.0 (subst (λ (w : N). In w (xs ++ x ∷ us)) (sym h) (in_middle xs us x)))
one_rest (z ∷ xs) (y ∷ ys) x us vs a e =
    let t : xs ++ x ∷ us ≡ ys ++ x ∷ vs = cc in
    one_rest xs ys x us vs a.1 t

one_part : {N : Type 0} (route ring other : List N) → Closes route → IsPartOf ring route → IsPartOf other route → ring ≡ other
one_part {N} route ring other c p q =
    let left : (p.before ++ ring) ++ p.last ∷ [] ≡ c.front ++ c.last ∷ [] = append_assoc p.before ring (p.last ∷ []) ∙ (sym p.whole ∙ c.whole) in
    let right : (q.before ++ other) ++ q.last ∷ [] ≡ c.front ++ c.last ∷ [] = append_assoc q.before other (q.last ∷ []) ∙ (sym q.whole ∙ c.whole) in
    let ends : p.last ≡ q.last = one_last (p.before ++ ring) c.front p.last c.last left ∙ sym (one_last (q.before ++ other) c.front q.last c.last right) in
    let first : p.before ++ p.last ∷ p.rest ≡ c.front = ap (λ (zs : List N). p.before ++ zs) (sym p.begins) ∙ one_front (p.before ++ ring) c.front p.last c.last left in
    let second : q.before ++ p.last ∷ q.rest ≡ c.front = ap (λ (z : N). q.before ++ z ∷ q.rest) ends ∙ (ap (λ (zs : List N). q.before ++ zs) (sym q.begins) ∙ one_front (q.before ++ other) c.front q.last c.last right) in
    let rests : p.rest ≡ q.rest = one_rest p.before q.before p.last p.rest q.rest (subst AreApart (sym first) c.apart) (first ∙ sym second) in
    p.begins ∙ (ap (λ (zs : List N). p.last ∷ zs) rests ∙ (ap (λ (z : N). z ∷ q.rest) ends ∙ sym q.begins))

pub same_ring : {N : Type 0} (needs : N → List N) (root : N) (ring other : List N) → IsRing needs root ring → IsRing needs root other → ring ≡ other
same_ring needs root ring other r s =
    one_part s.route ring other s.first.closed.closes (subst (IsPartOf ring) (one_route needs root r.route s.route r.first s.first) r.part) s.part
