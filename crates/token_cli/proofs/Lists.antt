-- Lists that grow at their end.
use Rattle.std.proofs.Common.{◌≡◌, ◌⊎◌, ℕ, zero, suc, List, [], ◌∷◌, ◌++◌, length, get_or, Some, ap, refl, inl, inr}
use Rattle.std.proofs.lemmas.Option.{none-some, same_Some}
use Rattle.std.specs.List.{slice_get}

one_further : {A : Type 0} (xs : List A) (z x y : A) (k : ℕ) → (slice_get xs k ≡ Some y) ⊎ ((k ≡ length xs) × (x ≡ y)) → (slice_get (z ∷ xs) (suc k) ≡ Some y) ⊎ ((suc k ≡ length (z ∷ xs)) × (x ≡ y))
one_further xs z x y k (inl e) = inl e
one_further xs z x y k (inr (n, e)) = inr (ap suc n, e)

-- what stands in a list with one item more
pub at_pushed : {A : Type 0} (xs : List A) (x y : A) (k : ℕ) → slice_get (xs ++ (x ∷ [])) k ≡ Some y → (slice_get xs k ≡ Some y) ⊎ ((k ≡ length xs) × (x ≡ y))
at_pushed [] x y zero e = inr (refl, same_Some x y e)
at_pushed [] x y (suc k) e = absurd (none-some y e)
at_pushed (z ∷ xs) x y zero e = inl e
at_pushed (z ∷ xs) x y (suc k) e = one_further xs z x y k (at_pushed xs x y k e)

pub last_pushed : {A : Type 0} (xs : List A) (b x d : A) → get_or (b ∷ (xs ++ (x ∷ []))) (length (xs ++ (x ∷ []))) d ≡ x
last_pushed [] b x d = refl
last_pushed (y ∷ xs) b x d = last_pushed xs y x d
