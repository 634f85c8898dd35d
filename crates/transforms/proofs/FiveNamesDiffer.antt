-- The five names of a typography differ.
use Rattle.std.proofs.Common.{◌≡◌, ℕ, ◌||◌, Bool, true, false, List, [], ◌∷◌, ◌++◌, map, refl, inl, inr}
use Rattle.std.specs.List.{list_any}
use Rattle.std.specs.Str.{bytes_eq}
use Rattle.std.proofs.lemmas.List.{append_cancel_left}
use Rattle.std.proofs.lemmas.Slice.Eq.{bytes_eq-Decides}
use Rattle.ring.specs.Lists.{In, AreApart}
use Rattle.transforms.specs.FiveNames.{family_end, size_end, weight_end, spacing_end, height_end, FiveNamesDiffer}
use Rattle.transforms.specs.declared.platform.Platform.{Platform}
use Rattle.transforms.specs.declared.platform.Platform.TheVariants.{Css, Android, Swift}

-- texts that a test tells apart
neither : (a b : Bool) → a || b ≡ false → (a ≡ false) × (b ≡ false)
neither true b h = cc
neither false b h = (refl, h)

not_in : (x : List ℕ) (ys : List (List ℕ)) → list_any (λ y. bytes_eq x y) ys ≡ false → In x ys → ⊥
not_in x [] h i = i
not_in x (y ∷ ys) h (inl e) =
    let same : bytes_eq x y ≡ true = (bytes_eq-Decides x y).1 e in
    let other : bytes_eq x y ≡ false = (neither (bytes_eq x y) (list_any (λ z. bytes_eq x z) ys) h).0 in cc
not_in x (y ∷ ys) h (inr i) = not_in x ys (neither (bytes_eq x y) (list_any (λ z. bytes_eq x z) ys) h).1 i

-- endings after one name
in_ended : (n a : List ℕ) (bs : List (List ℕ)) → In (n ++ a) (map (λ b. n ++ b) bs) → In a bs
in_ended n a [] i = i
in_ended n a (b ∷ bs) (inl e) = inl (append_cancel_left n a b e)
in_ended n a (b ∷ bs) (inr i) = inr (in_ended n a bs i)

apart_ended : (n : List ℕ) (bs : List (List ℕ)) → AreApart bs → AreApart (map (λ b. n ++ b) bs)
apart_ended n [] h = tt
apart_ended n (b ∷ bs) h = ((λ i. h.0 (in_ended n b bs i)), apart_ended n bs h.1)

abbrev endings : Platform → List (List ℕ)
endings p = family_end p ∷ size_end p ∷ weight_end p ∷ spacing_end p ∷ height_end p ∷ []

by_tests : (a b c d e : List ℕ) → list_any (λ y. bytes_eq a y) (b ∷ c ∷ d ∷ e ∷ []) ≡ false → list_any (λ y. bytes_eq b y) (c ∷ d ∷ e ∷ []) ≡ false
    → list_any (λ y. bytes_eq c y) (d ∷ e ∷ []) ≡ false → list_any (λ y. bytes_eq d y) (e ∷ []) ≡ false → AreApart (a ∷ b ∷ c ∷ d ∷ e ∷ [])
by_tests a b c d e ta tb tc td = (
  not_in a (b ∷ c ∷ d ∷ e ∷ []) ta,
  (not_in b (c ∷ d ∷ e ∷ []) tb, (not_in c (d ∷ e ∷ []) tc, (not_in d (e ∷ []) td, ((λ i. i), tt)))),
)

endings_apart : (p : Platform) → AreApart (endings p)
endings_apart Css = by_tests (family_end Css) (size_end Css) (weight_end Css) (spacing_end Css) (height_end Css) refl refl refl refl
endings_apart Android = by_tests (family_end Android) (size_end Android) (weight_end Android) (spacing_end Android) (height_end Android) refl refl refl refl
endings_apart Swift = by_tests (family_end Swift) (size_end Swift) (weight_end Swift) (spacing_end Swift) (height_end Swift) refl refl refl refl

pub five_names_differ : FiveNamesDiffer
five_names_differ p name = apart_ended name (endings p) (endings_apart p)
