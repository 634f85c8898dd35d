-- Lists that stand beside one another.
use Rattle.std.proofs.Common.{◌≡◌, ℕ, zero, suc, List, [], ◌∷◌, Some, None, refl, ap, subst}
use Rattle.std.specs.List.{AllZip, slice_get}
use Rattle.std.specs.Prelude.{map}

some_is : {X : Type 0} {x y : X} → Some x ≡ Some y → x ≡ y
some_is e = cc

none_is : {X : Type 0} {x : X} → None ≡ Some x → ⊥
none_is e = cc

-- what holds of the items at one place
pub zipped_at : {A B : Type 0} (P : A → B → Type 0) (xs : List A) (ys : List B) (i : ℕ) (x : A) (y : B) → AllZip P xs ys → slice_get xs i ≡ Some x → slice_get ys i ≡ Some y → P x y
zipped_at P [] ys i x y all e f = absurd (none_is e)
zipped_at P (a ∷ xs) [] i x y all e f = absurd all
zipped_at P (a ∷ xs) (b ∷ ys) zero x y all e f = subst (λ z. P z y) (some_is e) (subst (P a) (some_is f) all.0)
zipped_at P (a ∷ xs) (b ∷ ys) (suc i) x y all e f = zipped_at P xs ys i x y all.1 e f

-- .. of an item and the one beside it
pub zipped_beside : {A B : Type 0} (P : A → B → Type 0) (xs : List A) (ys : List B) (i : ℕ) (y : B) → AllZip P xs ys → slice_get ys i ≡ Some y → (x : A) × (slice_get xs i ≡ Some x) × P x y
zipped_beside P [] [] i y all f = absurd (none_is f)
zipped_beside P [] (b ∷ ys) i y all f = absurd all
zipped_beside P (a ∷ xs) [] i y all f = absurd all
zipped_beside P (a ∷ xs) (b ∷ ys) zero y all f = (a, refl, subst (P a) (some_is f) all.0)
zipped_beside P (a ∷ xs) (b ∷ ys) (suc i) y all f = zipped_beside P xs ys i y all.1 f

pub mapped_at : {A B : Type 0} (f : A → B) (xs : List A) (i : ℕ) (x : A) → slice_get xs i ≡ Some x → slice_get (map f xs) i ≡ Some (f x)
mapped_at f [] i x e = absurd (none_is e)
mapped_at f (y ∷ xs) zero x e = ap (λ z. Some (f z)) (some_is e)
mapped_at f (y ∷ xs) (suc i) x e = mapped_at f xs i x e
