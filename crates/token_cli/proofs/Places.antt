-- What stands at a place of a list.
use Rattle.std.proofs.Common.{◌≡◌, ◌<◌, ◌≤◌, ◌+◌, ℕ, zero, suc, List, [], ◌∷◌, length, map, get_or, Some, ap, sym, subst, refl, arith}
use Rattle.std.proofs.lemmas.List.{length-map}
use Rattle.std.specs.List.{slice_get}

pub plus_one : (i : ℕ) → suc i ≡ i + 1
plus_one i = omega arith

at_shown : {A B : Type 0} (xs : List A) (v : A → B) (i : ℕ) (d : A) → i < length xs → slice_get (map v xs) i ≡ Some (v (get_or xs i d))
at_shown [] v i d h = absurd (omega (arith, h))
at_shown (y ∷ xs) v zero d h = refl
at_shown (y ∷ xs) v (suc i) d h = at_shown xs v i d (omega (arith, h))

-- what stands at a place of the listed items
pub read_listed : {A B : Type 0} (xs : List A) (v : A → B) (ys : List B) (i : ℕ) (d : A) → map v xs ≡ ys → i < length xs → slice_get ys i ≡ Some (v (get_or xs i d))
read_listed xs v ys i d e h = subst (λ l. slice_get l i ≡ Some (v (get_or xs i d))) e (at_shown xs v i d h)

pub at_listed : {A B : Type 0} (xs : List A) (v : A → B) (ys : List B) (i : ℕ) (x : A) → map v xs ≡ ys → i < length xs → x ≡ get_or xs i x → slice_get ys i ≡ Some (v x)
at_listed xs v ys i x e h is = subst (λ z. slice_get ys i ≡ Some (v z)) (sym is) (read_listed xs v ys i x e h)

-- after the listed items there are no more
pub all_listed : {A B : Type 0} (xs : List A) (v : A → B) (ys : List B) (i : ℕ) → map v xs ≡ ys → length xs ≤ i → length ys ≤ i
all_listed xs v ys i e h = omega (arith, h, length-map xs v, ap length e)
