-- Whether an item is in a list in order, by where a search of it ended.
use Rattle.std.proofs.Common.{◌≡◌, ◌<◌, ◌≤◌, ℕ, zero, suc, Bool, true, false, ◌||◌, ◌⊎◌, inl, inr, List, [], ◌∷◌, length, Result, Ok, Err, refl, ap, sym, ◌∙◌, arith, Ordering, Less, Equal, Greater}
use Rattle.std.specs.Cmp.{IsTotalOrder}
use Rattle.std.specs.List.{list_any}
use Rattle.std.specs.List.Sorted.{IsBinarySearchResult, IsSearchInRange, IsSorted}
use Rattle.std.specs.Ordering.{is_eq}
use Rattle.std.specs.Prelude.{slice_index_or}
use Rattle.std.specs.Result.{is_ok}
use Rattle.std.proofs.lemmas.List.Sorted.{searchable_from_sorted}

any_true : (b : Bool) → (b || true) ≡ true
any_true true = refl
any_true false = refl

module _ {X : Type 0} (order : X → Ordering) where
  one_is : (xs : List X) (i : ℕ) (d : X) → i < length xs → order (slice_index_or xs i d) ≡ Equal → list_any (λ y. is_eq (order y)) xs ≡ true
  one_is [] i d within e = absurd (omega (arith, within))
  one_is (x ∷ xs) zero d within e = ap (λ r. is_eq r || list_any (λ y. is_eq (order y)) xs) e
  one_is (x ∷ xs) (suc i) d within e = ap (λ b. is_eq (order x) || b) (one_is xs i d (omega (arith, within)) e) ∙ any_true (is_eq (order x))

  none_is : (xs : List X) → ((k : ℕ) (d : X) → k < length xs → is_eq (order (slice_index_or xs k d)) ≡ false) → list_any (λ y. is_eq (order y)) xs ≡ false
  none_is [] h = refl
  none_is (x ∷ xs) h = ap (λ b. b || list_any (λ y. is_eq (order y)) xs) (h 0 x (omega arith)) ∙ none_is xs (λ k d within. h (suc k) d (omega (arith, within)))

apart : (r : Ordering) → (r ≡ Less) ⊎ (r ≡ Greater) → is_eq r ≡ false
apart r (inl e) = ap is_eq e
apart r (inr e) = ap is_eq e

split : {P Q : Type 0} (k i : ℕ) → (k < i → P) → (i ≤ k → Q) → P ⊎ Q
split zero zero p q = inr (q (omega arith))
split zero (suc i) p q = inl (p (omega arith))
split (suc k) zero p q = inr (q (omega arith))
split (suc k) (suc i) p q = split k i (λ h. p (omega (arith, h))) (λ h. q (omega (arith, h)))

pub holds_it : {X : Type 0} {R : X → X → Ordering} (o : IsTotalOrder R) (xs : List X) (x : X) (r : Result ℕ ℕ) → IsSorted R xs → IsSearchInRange r (length xs) → IsBinarySearchResult (λ y. R y x) xs r → is_ok r ≡ list_any (λ y. is_eq (R y x)) xs
holds_it {R = R} o xs x (Ok i) up within found = sym (one_is (λ y. R y x) xs i x within (found x))
holds_it {R = R} o xs x (Err i) up within parted =
    let place = parted (searchable_from_sorted o (λ y. y) xs x up) in
    sym (none_is (λ y. R y x) xs (λ k d below. apart (R (slice_index_or xs k d) x) (split k i (place.0 k d (omega arith)) (λ from. place.1 k d from below))))
