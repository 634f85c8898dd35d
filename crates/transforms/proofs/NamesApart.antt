-- All names of tokens are apart, where those of each token are and no two tokens share one.
use Rattle.std.proofs.Common.{◌≡◌, ℕ, zero, suc, List, [], ◌∷◌, ◌++◌, map, map-id, flat_map, refl, sym, ◌∙◌, ap, subst, inl, inr, arith}
use Rattle.std.specs.Prelude.{AllPairs}
use Rattle.std.specs.List.{AllByRecursion}
use Rattle.ring.specs.Lists.{In, AreApart, Each}
use Rattle.ring.proofs.Ends.{in_left, in_right, in_cases}
use Rattle.ring.proofs.ListWords.{in_has_place}
use Rattle.transforms.specs.Clash.{NamedToken, ShareNoName, AllNamesApart}

pub in_flat : {A B : Type 0} (f : A → List B) (a : A) (b : B) (xs : List A) → In a xs → In b (f a) → In b (flat_map f xs)
in_flat f a b [] i j = absurd i
in_flat f a b (x ∷ xs) (inl same) j = in_left (f x) (flat_map f xs) b (subst (λ z. In b (f z)) same j)
in_flat f a b (x ∷ xs) (inr i) j = in_right (f x) (flat_map f xs) b (in_flat f a b xs i j)

pub from_flat : {A B : Type 0} (f : A → List B) (b : B) (xs : List A) → In b (flat_map f xs) → (a : A) × In a xs × In b (f a)
from_flat f b [] i = absurd i
from_flat f b (x ∷ xs) i = elim (in_cases (f x) (flat_map f xs) b i) as (λ _. (a : _) × In a (x ∷ xs) × In b (f a)) [
  | inl j ↦ (x, inl refl, j)
  | inr j ↦ let (a, k, l) = from_flat f b xs j in (a, inr k, l)
]

in_map : {A B : Type 0} (f : A → B) (a : A) (xs : List A) → In a xs → In (f a) (map f xs)
in_map f a [] i = i
in_map f a (x ∷ xs) (inl same) = inl (ap f same)
in_map f a (x ∷ xs) (inr i) = inr (in_map f a xs i)

pub map-append : {A B : Type 0} (f : A → B) (xs ys : List A) → map f (xs ++ ys) ≡ map f xs ++ map f ys
map-append f [] ys = refl
map-append f (x ∷ xs) ys = ap (λ t. f x ∷ t) (map-append f xs ys)

pub each_of : {A : Type 0} (P : A → Type 0) (xs : List A) → AllByRecursion P xs → Each xs P
each_of P [] h x i = absurd i
each_of P (y ∷ ys) h x (inl same) = subst P (sym same) h.0
each_of P (y ∷ ys) h x (inr i) = each_of P ys h.1 x i

pub all_of : {A : Type 0} (P : A → Type 0) (xs : List A) → Each xs P → AllByRecursion P xs
all_of P [] h = tt
all_of P (x ∷ xs) h = (h x (inl refl), all_of P xs (λ y i. h y (inr i)))

first_pair : {A : Type 0} (R : A → A → Type 0) (x y : A) (xs : List A) → AllPairs R (x ∷ xs) → In y xs → R x y
first_pair R x y xs h i = let (k, low, at) = in_has_place y xs i in subst (R x) at (h zero (suc k) y (omega arith) (omega (arith, low)))

other_pairs : {A : Type 0} (R : A → A → Type 0) (x : A) (xs : List A) → AllPairs R (x ∷ xs) → AllPairs R xs
other_pairs R x xs h i j d below low = h (suc i) (suc j) d (omega (arith, below)) (omega (arith, low))

apart_append : {A : Type 0} (xs ys : List A) → AreApart xs → AreApart ys → ((x : A) → In x xs → In x ys → ⊥) → AreApart (xs ++ ys)
apart_append [] ys h i none = i
apart_append (x ∷ xs) ys h i none = (
  (λ j. elim (in_cases xs ys x j) as (λ _. ⊥) [ inl a ↦ h.0 a | inr b ↦ none x (inl refl) b ]),
  apart_append xs ys h.1 i (λ y a b. none y (inr a) b),
)

-- the same of whatever has names
module _ {A : Type 0} (named : A → NamedToken) where
  pub names_apart : (xs : List A) → Each xs (λ x. AreApart (named x).names) → AllPairs ShareNoName (map named xs)
      → AreApart (flat_map (λ x. (named x).names) xs)
  names_apart [] own h = tt
  names_apart (x ∷ xs) own h =
      let rest = flat_map (λ y. (named y).names) xs in
      apart_append (named x).names rest (own x (inl refl))
      (names_apart xs (λ y i. own y (inr i)) (other_pairs ShareNoName (named x) (map named xs) h))
      (λ name i j.
      let (y, k, l) = from_flat (λ z. (named z).names) name xs j in
      first_pair ShareNoName (named x) (named y) (map named xs) h (in_map named y xs k) name
      (in_has_place name (named x).names i) (in_has_place name (named y).names l))

pub all_names_apart : AllNamesApart
all_names_apart tokens own h = names_apart (λ token. token) tokens own (subst (λ ts. AllPairs ShareNoName ts) (sym (map-id tokens)) h)

-- the names of all values, where each gives some
pub names_in : {A V : Type 0} (values : A → List (List ℕ × V)) (xs : List A)
    → map (λ v. v.0) (flat_map values xs) ≡ flat_map (λ x. map (λ v. v.0) (values x)) xs
names_in values [] = refl
names_in values (x ∷ xs) =
    map-append (λ v. v.0) (values x) (flat_map values xs) ∙ ap (λ ns. map (λ v. v.0) (values x) ++ ns) (names_in values xs)
