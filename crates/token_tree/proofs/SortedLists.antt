-- Lists whose items are seen as entries in the order of their keys: where a key is found, and what an edit there makes.
use Rattle.std.proofs.Common.{◌≡◌, ℕ, zero, suc, ◌<◌, ◌≤◌, Bool, true, false, ◌&&◌, cond, T, List, [], ◌∷◌, map, length, get_or, set, Some, None, refl, sym, ap, subst, ◌∙◌, arith, Ordering, Less, Equal, Greater}
use Rattle.std.specs.FinMap.{is_sorted, find, put}
use Rattle.std.specs.FinMap.Entries.{below_all, by_order}
use Rattle.std.specs.Cmp.{IsTotalOrder, tied_itself}
use Rattle.std.specs.List.{insert}
use Rattle.std.specs.Ordering.{is_lt, is_eq, ordering_reverse}

pub first : (a b : Bool) → T (a && b) → T a
first true b p = tt
first false b p = p

pub second : (a b : Bool) → T (a && b) → T b
second true b p = p
second false b p = absurd p

pub less : (o : Ordering) → T (is_lt o) → o ≡ Less
less Less p = refl
less Equal p = absurd p
less Greater p = absurd p

module _ {K : Type 0} {R : K → K → Ordering} (o : IsTotalOrder R) where
  pub greater : (x y : K) → R x y ≡ Less → R y x ≡ Greater
  greater x y e = o.antisymm y x ∙ ap ordering_reverse e

  pub lower : (x y : K) → R x y ≡ Greater → R y x ≡ Less
  lower x y e = o.antisymm y x ∙ ap ordering_reverse e

module _ {K X Z : Type 0} {R : K → K → Ordering} (o : IsTotalOrder R) (f : Z → K × X) where
  abbrev key_at : List Z → ℕ → Z → K
  key_at zs i d = (f (get_or zs i d)).0

  below_at : (x : K) (zs : List Z) (i : ℕ) (d : Z) → T (below_all R x (map f zs)) → i < length zs → R x (key_at zs i d) ≡ Less
  below_at x [] i d h l = absurd (omega (arith, l))
  below_at x (z ∷ zs) zero d h l = less _ (first _ _ h)
  below_at x (z ∷ zs) (suc i) d h l = below_at x zs i d (second _ _ h) (omega (arith, l))

  -- what is before a lesser key is less, and what is after a greater one is greater
  pub before_less : (zs : List Z) (i j : ℕ) (k : K) (c d : Z) → T (is_sorted R (map f zs)) → i ≤ j → j < length zs → R (key_at zs j d) k ≡ Less → R (key_at zs i c) k ≡ Less
  before_less [] i j k c d h m l e = absurd (omega (arith, l))
  before_less (z ∷ zs) zero zero k c d h m l e = e
  before_less (z ∷ zs) zero (suc j) k c d h m l e = o.trans (f z).0 (key_at zs j d) k (below_at (f z).0 zs j d (first _ _ h) (omega (arith, l))) e
  before_less (z ∷ zs) (suc i) zero k c d h m l e = absurd (omega (arith, m))
  before_less (z ∷ zs) (suc i) (suc j) k c d h m l e = before_less zs i j k c d (second _ _ h) (omega (arith, m)) (omega (arith, l)) e

  pub behind_greater : (zs : List Z) (i j : ℕ) (k : K) (c d : Z) → T (is_sorted R (map f zs)) → i ≤ j → j < length zs → R (key_at zs i d) k ≡ Greater → R (key_at zs j c) k ≡ Greater
  behind_greater [] i j k c d h m l e = absurd (omega (arith, l))
  behind_greater (z ∷ zs) zero zero k c d h m l e = e
  behind_greater (z ∷ zs) zero (suc j) k c d h m l e =
      greater o k (key_at zs j c) (o.trans k (f z).0 (key_at zs j c) (lower o (f z).0 k e) (below_at (f z).0 zs j c (first _ _ h) (omega (arith, l))))
  behind_greater (z ∷ zs) (suc i) zero k c d h m l e = absurd (omega (arith, m))
  behind_greater (z ∷ zs) (suc i) (suc j) k c d h m l e = behind_greater zs i j k c d (second _ _ h) (omega (arith, m)) (omega (arith, l)) e

  -- where a key is, there it is found, and an entry put replaces the one there
  pub find_here : (zs : List Z) (i : ℕ) (k : K) (d : Z) → T (is_sorted R (map f zs)) → i < length zs → key_at zs i d ≡ k → find R k (map f zs) ≡ Some (f (get_or zs i d)).1
  find_here [] i k d h l e = absurd (omega (arith, l))
  find_here (z ∷ zs) zero k d h l e = ap (λ r. cond (is_eq r) (Some (f z).1) (find R k (map f zs))) (subst (λ x. R k x ≡ Equal) (sym e) (tied_itself o k))
  find_here (z ∷ zs) (suc i) k d h l e =
      let b : R (f z).0 k ≡ Less = subst (λ x. R (f z).0 x ≡ Less) e (below_at (f z).0 zs i d (first _ _ h) (omega (arith, l))) in
      ap (λ r. cond (is_eq r) (Some (f z).1) (find R k (map f zs))) (greater o (f z).0 k b) ∙ find_here zs i k d (second _ _ h) (omega (arith, l)) e

  pub put_here : (zs : List Z) (i : ℕ) (y d : Z) → T (is_sorted R (map f zs)) → i < length zs → key_at zs i d ≡ (f y).0 → put R (f y).0 (f y).1 (map f zs) ≡ map f (set zs i y)
  put_here [] i y d h l e = absurd (omega (arith, l))
  put_here (z ∷ zs) zero y d h l e =
      ap (λ r. by_order r (f y ∷ map f (z ∷ zs)) (((f z).0, (f y).1) ∷ map f zs) (f z ∷ put R (f y).0 (f y).1 (map f zs))) (subst (λ x. R (f y).0 x ≡ Equal) (sym e) (tied_itself o (f y).0))
      ∙ ap (λ k. (k, (f y).1) ∷ map f zs) e
  put_here (z ∷ zs) (suc i) y d h l e =
      let b : R (f z).0 (f y).0 ≡ Less = subst (λ x. R (f z).0 x ≡ Less) e (below_at (f z).0 zs i d (first _ _ h) (omega (arith, l))) in
      ap (λ r. by_order r (f y ∷ map f (z ∷ zs)) (((f z).0, (f y).1) ∷ map f zs) (f z ∷ put R (f y).0 (f y).1 (map f zs))) (greater o (f z).0 (f y).0 b)
      ∙ ap (λ l. f z ∷ l) (put_here zs i y d (second _ _ h) (omega (arith, l)) e)

  -- between the lesser and the greater there is no such key, and an entry put is inserted
  pub find_gap : (zs : List Z) (i : ℕ) (k : K) → i ≤ length zs → ((j : ℕ) (d : Z) → j < i → R (key_at zs j d) k ≡ Less) → ((j : ℕ) (d : Z) → i ≤ j → j < length zs → R (key_at zs j d) k ≡ Greater)
      → find R k (map f zs) ≡ None
  find_gap [] i k l before behind = refl
  find_gap (z ∷ zs) zero k l before behind =
      ap (λ r. cond (is_eq r) (Some (f z).1) (find R k (map f zs))) (lower o (f z).0 k (behind 0 z (omega arith) (omega arith)))
      ∙ find_gap zs 0 k (omega arith) (λ j d m. absurd (omega (arith, m))) (λ j d m n. behind (suc j) d (omega arith) (omega (arith, n)))
  find_gap (z ∷ zs) (suc i) k l before behind =
      ap (λ r. cond (is_eq r) (Some (f z).1) (find R k (map f zs))) (greater o (f z).0 k (before 0 z (omega arith)))
      ∙ find_gap zs i k (omega (arith, l)) (λ j d m. before (suc j) d (omega (arith, m))) (λ j d m n. behind (suc j) d (omega (arith, m)) (omega (arith, n)))

  pub put_gap : (zs : List Z) (i : ℕ) (y : Z) → i ≤ length zs → ((j : ℕ) (d : Z) → j < i → R (key_at zs j d) (f y).0 ≡ Less) → ((j : ℕ) (d : Z) → i ≤ j → j < length zs → R (key_at zs j d) (f y).0 ≡ Greater)
      → put R (f y).0 (f y).1 (map f zs) ≡ map f (insert zs i y)
  put_gap [] zero y l before behind = refl
  put_gap [] (suc i) y l before behind = absurd (omega (arith, l))
  put_gap (z ∷ zs) zero y l before behind =
      ap (λ r. by_order r (f y ∷ map f (z ∷ zs)) (((f z).0, (f y).1) ∷ map f zs) (f z ∷ put R (f y).0 (f y).1 (map f zs))) (lower o (f z).0 (f y).0 (behind 0 z (omega arith) (omega arith)))
  put_gap (z ∷ zs) (suc i) y l before behind =
      ap (λ r. by_order r (f y ∷ map f (z ∷ zs)) (((f z).0, (f y).1) ∷ map f zs) (f z ∷ put R (f y).0 (f y).1 (map f zs))) (greater o (f z).0 (f y).0 (before 0 z (omega arith)))
      ∙ ap (λ l. f z ∷ l) (put_gap zs i y (omega (arith, l)) (λ j d m. before (suc j) d (omega (arith, m))) (λ j d m n. behind (suc j) d (omega (arith, m)) (omega (arith, n))))
