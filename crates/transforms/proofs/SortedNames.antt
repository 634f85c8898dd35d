-- Names in their order: no name stands twice exactly where each is less than the next.
use Rattle.std.proofs.Common.{◌≡◌, ℕ, ◌+◌, ◌<◌, Bool, true, false, List, [], ◌∷◌, map, length, get_or, refl, sym, ap, ap₂, subst, ◌∙◌, arith, Ordering, Less, Equal, Greater}
use Rattle.std.specs.Bool.{Decides}
use Rattle.std.specs.Cmp.Lexicographic.{nat_list_cmp_total}
use Rattle.std.specs.List.{AllAdjacentBelow, IsAllAdjacentAnswer}
use Rattle.std.specs.List.Sorted.{IsPermutation, IsSortedBy}
use Rattle.std.specs.Ordering.{is_lt, is_eq, eq_by_cmp, ordering_reverse}
use Rattle.std.proofs.lemmas.Cmp.{eq_by_cmp_equiv, tied_itself}
use Rattle.std.proofs.lemmas.List.{get_or-map, length-map}
use Rattle.std.proofs.lemmas.List.Sorted.{IsPermutation-map, IsPermutation-sym}
use Rattle.std.proofs.lemmas.Map.Keys.{sorted_from_all_adjacent, IsDistinct-from_sorted, IsDistinct-IsPermutation}
use Rattle.std.proofs.lemmas.Map.Made.{AllPairs-from_IsDistinct, IsDistinct-from_AllPairs}
use Rattle.ring.specs.Lists.{AreApart}
use Rattle.ring.proofs.ListWords.{apart_at_places, places_apart}
use Rattle.tk_io.specs.Order.{text_cmp}
use Rattle.tk_io.proofs.TextMaps.{text_cmp-IsAntisymmetric}
use Rattle.transforms.proofs.Taken.{same_name}

same : (a b : List ℕ) → Decides (eq_by_cmp text_cmp a b) (a ≡ b)
same a b = (same_name a b, λ e. subst (λ c. eq_by_cmp text_cmp a c ≡ true) e (ap is_eq (tied_itself nat_list_cmp_total a)))

-- names that are apart stay so in any order
apart_moved : (xs ys : List (List ℕ)) → IsPermutation xs ys → AreApart xs → AreApart ys
apart_moved xs ys moved apart =
    places_apart ys (AllPairs-from_IsDistinct same ys
    (IsDistinct-IsPermutation (eq_by_cmp text_cmp) (eq_by_cmp_equiv nat_list_cmp_total).symm xs ys moved
    (IsDistinct-from_AllPairs same xs (apart_at_places xs apart))))

pub rising_apart : (names : List (List ℕ)) → ((k : ℕ) → k + 1 < length names → text_cmp (get_or names k []) (get_or names (k + 1) []) ≡ Less) → AreApart names
rising_apart names rise = places_apart names (AllPairs-from_IsDistinct same names (IsDistinct-from_sorted text_cmp names (sorted_from_all_adjacent nat_list_cmp_total names [] rise)))

pub less : (r : Ordering) → true ≡ is_lt r → r ≡ Less
less Less e = refl
less Equal e = cc
less Greater e = cc

neither : (r : Ordering) → is_lt r ≡ false → is_lt (ordering_reverse r) ≡ false → r ≡ Equal
neither Less e f = cc
neither Equal e f = refl
neither Greater e f = cc

-- of which none is less than the other
level : (a b : List ℕ) → is_lt (text_cmp a b) ≡ false → is_lt (text_cmp b a) ≡ false → a ≡ b
level a b e f = text_cmp-IsAntisymmetric a b (neither (text_cmp a b) e (ap is_lt (sym (nat_list_cmp_total.antisymm b a)) ∙ f))

module _ {A : Type 0} (name : A → List ℕ) where
  abbrev pub is_less : A → A → Bool
  is_less x y = is_lt (text_cmp (name x) (name y))

  pub rises : (xs : List A) → AllAdjacentBelow (λ x y. true ≡ is_less x y) xs (length xs) → (k : ℕ) → k + 1 < length (map name xs)
      → text_cmp (get_or (map name xs) k []) (get_or (map name xs) (k + 1) []) ≡ Less
  rises [] h k low = absurd (omega (arith, low))
  rises (x ∷ xs) h k low =
      let within : k + 1 < length (x ∷ xs) = subst (λ n. k + 1 < n) (length-map (x ∷ xs) name) low in
      ap₂ text_cmp (get_or-map name (x ∷ xs) k x [] (omega (arith, within))) (get_or-map name (x ∷ xs) (k + 1) x [] within)
      ∙ less (text_cmp (name (get_or (x ∷ xs) k x)) (name (get_or (x ∷ xs) (k + 1) x))) (h k x within)

  -- neighbours that are not apart
  equal_at : (xs : List A) (k : ℕ) (d : A) → k + 1 < length xs → name (get_or xs k d) ≡ name (get_or xs (k + 1) d) → AreApart (map name xs) → ⊥
  equal_at xs k d low e apart =
      let within : k + 1 < length (map name xs) = subst (λ n. k + 1 < n) (sym (length-map xs name)) low in
      apart_at_places (map name xs) apart k (k + 1) [] (omega arith) within
      (get_or-map name xs k d [] (omega (arith, low)) ∙ (e ∙ sym (get_or-map name xs (k + 1) d [] low)))

  levels : (xs : List A) (k : ℕ) → IsSortedBy is_less xs → k + 1 < length xs → ((d : A) → false ≡ is_less (get_or xs k d) (get_or xs (k + 1) d)) → AreApart (map name xs) → ⊥
  levels [] k sorted low h apart = absurd (omega (arith, low))
  levels (x ∷ xs) k sorted low h apart =
      equal_at (x ∷ xs) k x low (level (name (get_or (x ∷ xs) k x)) (name (get_or (x ∷ xs) (k + 1) x)) (sym (h x)) (sorted k x (omega arith) low)) apart

  -- what the test of neighbours says of the names before they were sorted
  pub told_apart : (xs sorted : List A) (answer : Bool) → IsPermutation xs sorted → IsSortedBy is_less sorted → IsAllAdjacentAnswer (λ x y b. b ≡ is_less x y) sorted answer
      → Decides answer (AreApart (map name xs))
  told_apart xs sorted true moved in_order h = (
    (λ e. apart_moved (map name sorted) (map name xs) (IsPermutation-sym (map name xs) (map name sorted) (IsPermutation-map name xs sorted moved)) (rising_apart (map name sorted) (rises sorted h))),
    (λ apart. refl),
  )
  told_apart xs sorted false moved in_order h = (
    (λ e. cc),
    (λ apart. absurd (levels sorted h.0 in_order h.1 h.2 (apart_moved (map name xs) (map name sorted) (IsPermutation-map name xs sorted moved) apart))),
  )
