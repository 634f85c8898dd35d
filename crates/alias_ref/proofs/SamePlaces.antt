-- The test of two places.
use Rattle.std.proofs.Common.{◌≡◌, List, true, refl, ap₂, subst}
use Rattle.std.specs.Cmp.Lexicographic.{pointwise, pointwise_decides}
use Rattle.std.specs.Str.{bytes_eq}
use Rattle.std.proofs.lemmas.Slice.Eq.{bytes_eq-Decides}
use Rattle.name_path.specs.declared.place.Place.{Place}
use Rattle.token_tree.proofs.Names.{and_left, and_right, and_both}
use Rattle.alias_ref.specs.Written.{Step}
use Rattle.alias_ref.specs.Visits.{same_place}

pub same_steps-is : (xs ys : List Step) → pointwise bytes_eq xs ys ≡ true → xs ≡ ys
same_steps-is xs ys h = (pointwise_decides bytes_eq-Decides xs ys).0 h

steps_same : (xs : List Step) → pointwise bytes_eq xs xs ≡ true
steps_same xs = (pointwise_decides bytes_eq-Decides xs xs).1 refl

pub same_steps : (xs ys : List Step) → xs ≡ ys → pointwise bytes_eq xs ys ≡ true
same_steps xs ys e = (pointwise_decides bytes_eq-Decides xs ys).1 e

place_of : (p q : Place) → p.token ≡ q.token → p.trail ≡ q.trail → p ≡ q
place_of p q e f = let make : List Step → List Step → Place = λ t s. record { token = t; trail = s } in ap₂ make e f

pub same_place-is : (p q : Place) → same_place p q ≡ true → p ≡ q
same_place-is p q h =
    place_of p q (same_steps-is p.token q.token (and_left (pointwise bytes_eq p.token q.token) _ h)) (same_steps-is p.trail q.trail (and_right (pointwise bytes_eq p.token q.token) _ h))

self_same : (p : Place) → same_place p p ≡ true
self_same p = and_both (pointwise bytes_eq p.token p.token) _ (steps_same p.token) (steps_same p.trail)

pub place_same : (p q : Place) → p ≡ q → same_place p q ≡ true
place_same p q e = subst (λ x. same_place p x ≡ true) e (self_same p)
