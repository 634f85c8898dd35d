-- A stable sort by keys, no two of which are equal: the sorted list is strictly in order, and is the same map.
use Rattle.std.proofs.Common.{◌≡◌, suc, ◌+◌, ◌≤◌, Bool, true, false, ◌&&◌, not, cond, T, List, [], ◌∷◌, map, length, get_or, Some, None, refl, sym, ap, subst, ◌∙◌, arith, Ordering, Less, Equal, Greater}
use Rattle.std.specs.FinMap as finite
use Rattle.std.specs.FinMap.{IsAntisymmetric, is_sorted, find}
use Rattle.std.specs.FinMap.Entries.{below_all, find_tied}
use Rattle.std.specs.Cmp.{IsTotalOrder, tied_itself}
use Rattle.std.specs.List.{filter}
use Rattle.std.specs.List.Sorted.{IsSortedBy, IsStableBy, ties}
use Rattle.std.specs.Ordering.{is_lt, is_eq, ordering_reverse}
use Rattle.token_tree.specs.inner.Lists.{KeysAreApart}
use Rattle.token_tree.proofs.SortedLists.{first, second, less, lower}

equal : (r : Ordering) → is_eq r ≡ true → r ≡ Equal
equal Less e = absurd (cc)
equal Equal e = refl
equal Greater e = absurd (cc)

both : (a b : Bool) → T a → T b → T (a && b)
both true b p q = q
both false b p q = p

tied_by : (r : Ordering) → (not (is_lt r) && not (is_lt (ordering_reverse r))) ≡ is_eq r
tied_by Less = refl
tied_by Equal = refl
tied_by Greater = refl

module _ {Z : Type 0} where
  filter_same : (p q : Z → Bool) → ((z : Z) → p z ≡ q z) → (zs : List Z) → filter p zs ≡ filter q zs
  filter_same p q e [] = refl
  filter_same p q e (z ∷ zs) = λ i. cond (e z i) (z ∷ filter_same p q e zs i) (filter_same p q e zs i)

  passes : (p : Z → Bool) (zs : List Z) (z : Z) (l : List Z) → filter p zs ≡ z ∷ l → p z ≡ true
  passes p [] z l e = absurd (cc)
  passes p (y ∷ zs) z l e =
      elim (p y) as (λ b. p y ≡ b → cond b (y ∷ filter p zs) (filter p zs) ≡ z ∷ l → p z ≡ true) [
        | true ↦ λ t k. (let h : y ≡ z = cc in ap p (sym h) ∙ t)
        | false ↦ λ t k. passes p zs z l k
      ] refl e

  fewer : (b : Bool) (z : Z) (l : List Z) → length (cond b (z ∷ l) l) ≤ 1 → length l ≤ 1
  fewer true z l h = omega (arith, h)
  fewer false z l h = h

module _ {K X Z : Type 0} {R : K → K → Ordering} (o : IsTotalOrder R) (same : IsAntisymmetric R) (f : Z → K × X) where
  abbrev named : K → Z → Bool
  named q z = is_eq (R q (f z).0)

  abbrev before : Z → Z → Bool
  before x y = is_lt (R (f x).0 (f y).0)

  none_named : (zs : List Z) (q : K) → find R q (map f zs) ≡ None → filter (named q) zs ≡ []
  none_named [] q e = refl
  none_named (z ∷ zs) q e =
      elim (named q z) as (λ b. cond b (Some (f z).1) (find R q (map f zs)) ≡ None → cond b (z ∷ filter (named q) zs) (filter (named q) zs) ≡ []) [
        | true ↦ λ k. absurd (cc)
        | false ↦ λ k. none_named zs q k
      ] e

  one_named : (zs : List Z) → KeysAreApart R (map f zs) → (q : K) → length (filter (named q) zs) ≤ 1
  one_named [] a q = omega arith
  one_named (z ∷ zs) a q =
      elim (named q z) as (λ b. named q z ≡ b → length (cond b (z ∷ filter (named q) zs) (filter (named q) zs)) ≤ 1) [
        | true ↦ λ t.
            let none : find R q (map f zs) ≡ None = sym (find_tied R o q (f z).0 (equal _ t) (map f zs)) ∙ a.0 in
            subst (λ l. length (z ∷ l) ≤ 1) (sym (none_named zs q none)) (omega arith)
        | false ↦ λ t. one_named zs a.1 q
      ] refl

  find_named : (zs : List Z) (q : K) → find R q (map f zs) ≡ find R q (map f (filter (named q) zs))
  find_named [] q = refl
  find_named (z ∷ zs) q =
      elim (named q z) as (λ b. named q z ≡ b → cond b (Some (f z).1) (find R q (map f zs)) ≡ find R q (map f (cond b (z ∷ filter (named q) zs) (filter (named q) zs)))) [
        | true ↦ λ t. ap (λ b. cond b (Some (f z).1) (find R q (map f (filter (named q) zs)))) (sym t)
        | false ↦ λ t. find_named zs q
      ] refl

  ties_named : (z w : Z) → ties before z w ≡ named (f z).0 w
  ties_named z w = ap (λ r. not (is_lt (R (f z).0 (f w).0)) && not (is_lt r)) (o.antisymm (f w).0 (f z).0) ∙ tied_by (R (f z).0 (f w).0)

  -- a stable sort keeps the items of each key
  module _ (xs ys : List Z) (stable : IsStableBy before xs ys) where
    at_item : (z : Z) → filter (named (f z).0) ys ≡ filter (named (f z).0) xs
    at_item z = sym (filter_same (ties before z) (named (f z).0) (ties_named z) ys) ∙ (stable z ∙ filter_same (ties before z) (named (f z).0) (ties_named z) xs)

    at_key : (q : K) (z : Z) → named q z ≡ true → filter (named q) ys ≡ filter (named q) xs
    at_key q z t = subst (λ k. filter (named k) ys ≡ filter (named k) xs) (sym (same q (f z).0 (equal _ t))) (at_item z)

    by_first : (q : K) (a b : List Z) → filter (named q) ys ≡ a → filter (named q) xs ≡ b → filter (named q) ys ≡ filter (named q) xs
    by_first q (z ∷ a) b e g = at_key q z (passes (named q) ys z a e)
    by_first q [] (z ∷ b) e g = at_key q z (passes (named q) xs z b g)
    by_first q [] [] e g = e ∙ sym g

    keeps_named : (q : K) → filter (named q) ys ≡ filter (named q) xs
    keeps_named q = by_first q (filter (named q) ys) (filter (named q) xs) refl refl

  below_less : (x y : K) (es : List (K × X)) → R x y ≡ Less → T (below_all R y es) → T (below_all R x es)
  below_less x y [] p h = tt
  below_less x y (e ∷ es) p h = both _ _ (subst (λ r. T (is_lt r)) (sym (o.trans x y e.0 p (less _ (first _ _ h)))) tt) (below_less x y es p (second _ _ h))

  no_two : (z y : Z) (l : List Z) → R (f z).0 (f y).0 ≡ Equal → length (cond (named (f z).0 z) (z ∷ cond (named (f z).0 y) (y ∷ l) l) (cond (named (f z).0 y) (y ∷ l) l)) ≤ 1 → ⊥
  no_two z y l e h =
      let two : suc (suc (length l)) ≤ 1 = subst (λ b. length (cond b (z ∷ y ∷ l) (y ∷ l)) ≤ 1) (ap is_eq (tied_itself o (f z).0)) (subst (λ b. length (cond (named (f z).0 z) (z ∷ cond b (y ∷ l) l) (cond b (y ∷ l) l)) ≤ 1) (ap is_eq e) h) in
      omega (arith, two)

  -- neighbours of different keys rise strictly
  next_less : (z y : Z) (l : List Z) → before y z ≡ false → length (cond (named (f z).0 z) (z ∷ cond (named (f z).0 y) (y ∷ l) l) (cond (named (f z).0 y) (y ∷ l) l)) ≤ 1 → R (f z).0 (f y).0 ≡ Less
  next_less z y l s h =
      elim (R (f z).0 (f y).0) as (λ r. R (f z).0 (f y).0 ≡ r → r ≡ Less) [
        | Less ↦ λ e. refl
        | Equal ↦ λ e. absurd (no_two z y l e h)
        | Greater ↦ λ e. (let b : is_lt (R (f y).0 (f z).0) ≡ true = ap is_lt (lower o (f z).0 (f y).0 e) in absurd (cc))
      ] refl

  tail_sorted : (z : Z) (zs : List Z) → IsSortedBy before (z ∷ zs) → IsSortedBy before zs
  tail_sorted z zs s k d low high =
      let e : suc k + 1 ≡ suc (k + 1) = omega arith in
      subst (λ j. before (get_or (z ∷ zs) j d) (get_or zs k d) ≡ false) e (s (suc k) d (omega arith) (omega (arith, high)))

  strict : (ys : List Z) → IsSortedBy before ys → ((q : K) → length (filter (named q) ys) ≤ 1) → T (is_sorted R (map f ys))
  strict [] s h = tt
  strict (z ∷ []) s h = tt
  strict (z ∷ y ∷ ys) s h =
      let l : R (f z).0 (f y).0 ≡ Less = next_less z y (filter (named (f z).0) ys) (s 0 z (omega arith) (omega arith)) (h (f z).0) in
      let rest = strict (y ∷ ys) (tail_sorted z (y ∷ ys) s) (λ q. fewer (named q z) z (filter (named q) (y ∷ ys)) (h q)) in
      both _ _ (both _ _ (subst (λ r. T (is_lt r)) (sym l) tt) (below_less (f z).0 (f y).0 (map f ys) l (first _ _ rest))) rest

  pub sorted_strictly : (xs ys : List Z) → KeysAreApart R (map f xs) → IsSortedBy before ys → IsStableBy before xs ys → T (is_sorted R (map f ys))
  sorted_strictly xs ys a s stable = strict ys s (λ q. subst (λ l. length l ≤ 1) (sym (keeps_named xs ys stable q)) (one_named xs a q))

  pub same_sorted : (xs ys : List Z) → T (is_sorted R (map f ys)) → IsStableBy before xs ys → finite.from_sorted {R = R} (map f ys) ≡ finite.from_entries (map f xs)
  same_sorted xs ys h stable = finite.same_map o same _ _ (λ q.
      finite.get-from_sorted R (map f ys) q h
      ∙ (find_named ys q ∙ (ap (λ l. find R q (map f l)) (keeps_named xs ys stable q) ∙ (sym (find_named xs q) ∙ sym (finite.get-from_entries o (map f xs) q)))))
