-- The entries of a finite map are what it has at its keys.
use Rattle.std.proofs.Common.{◌≡◌, Bool, true, false, ◌&&◌, cond, T, Ordering, Less, Equal, Greater, List, [], ◌∷◌, inl, inr, Some, None, refl, sym, ap, ◌∙◌}
use Rattle.std.specs.Cmp.{IsTotalOrder, tied_itself}
use Rattle.std.specs.FinMap as finite
use Rattle.std.specs.FinMap.{IsAntisymmetric}
use Rattle.std.specs.FinMap.Entries.{find, is_sorted, below_all}
use Rattle.std.specs.Ordering.{eq_by_cmp, is_eq, is_lt}
use Rattle.ring.specs.Lists.{In}

first : (a b : Bool) → T (a && b) → T a
first true b p = tt
first false b p = p

second : (a b : Bool) → T (a && b) → T b
second true b p = p
second false b p = absurd p

less_apart : (o : Ordering) → T (is_lt o) → is_eq o ≡ false
less_apart Less p = refl
less_apart Equal p = absurd p
less_apart Greater p = absurd p

equal : (o : Ordering) → is_eq o ≡ true → o ≡ Equal
equal Less p = cc
equal Equal p = refl
equal Greater p = cc

some_none : {X : Type 0} {x : X} → Some x ≡ None → ⊥
some_none e = cc

some_is : {X : Type 0} {x y : X} → Some x ≡ Some y → x ≡ y
some_is e = cc

module _ {K X : Type 0} {R : K → K → Ordering} (o : IsTotalOrder R) (same : IsAntisymmetric R) where
  abbrev entry : K → X → K × X
  entry k x = (k, x)

  -- what is found in a list is one of its entries
  found_in : (es : List (K × X)) (q : K) (x : X) → find R q es ≡ Some x → In (entry q x) es
  found_in [] q x e = absurd (some_none (sym e))
  found_in (y ∷ es) q x e = at (λ f. found_in es q x f) (eq_by_cmp R q y.0) refl e
    where
      at : (find R q es ≡ Some x → In (entry q x) es) → (b : Bool) → eq_by_cmp R q y.0 ≡ b
          → cond b (Some y.1) (find R q es) ≡ Some x → In (entry q x) (y ∷ es)
      at rest true is f = inl (λ i. (same q y.0 (equal (R q y.0) is) i, sym (some_is f) i))
      at rest false is f = inr (rest f)

  -- a key below all of a list is not found there
  none_below : (q : K) (es : List (K × X)) → T (below_all R q es) → find R q es ≡ None
  none_below q [] h = refl
  none_below q (x ∷ es) h =
      ap (λ b. cond b (Some x.1) (find R q es)) (less_apart (R q x.0) (first (is_lt (R q x.0)) (below_all R q es) h))
      ∙ none_below q es (second (is_lt (R q x.0)) (below_all R q es) h)

  -- an entry of a list in order is found there
  in_found : (es : List (K × X)) (q : K) (x : X) → T (is_sorted R es) → In (entry q x) es → find R q es ≡ Some x
  in_found [] q x s i = absurd i
  in_found (y ∷ es) q x s (inl is) =
      ap (λ (z : K × X). find R q (z ∷ es)) (sym is) ∙ ap (λ r. cond (is_eq r) (Some x) (find R q es)) (tied_itself o q)
  in_found (y ∷ es) q x s (inr i) = at (in_found es q x (second (below_all R y.0 es) (is_sorted R es) s) i) (eq_by_cmp R q y.0) refl
    where
      lacks : find R y.0 es ≡ None
      lacks = none_below y.0 es (first (below_all R y.0 es) (is_sorted R es) s)

      at : find R q es ≡ Some x → (b : Bool) → eq_by_cmp R q y.0 ≡ b → cond b (Some y.1) (find R q es) ≡ Some x
      at rest true is =
          absurd (some_none (sym rest ∙ (ap (λ k. find R k es) (same q y.0 (equal (R q y.0) is)) ∙ lacks)))
      at rest false is = rest

  pub entry_found : (m : finite.FinMap R X) (q : K) (x : X) → In (entry q x) (finite.entries m) → finite.get m q ≡ Some x
  entry_found m q x i = finite.get-entries m q ∙ in_found (finite.entries m) q x (finite.entries_sorted m) i

  pub entry_there : (m : finite.FinMap R X) (q : K) (x : X) → finite.get m q ≡ Some x → In (entry q x) (finite.entries m)
  entry_there m q x e = found_in (finite.entries m) q x (sym (finite.get-entries m q) ∙ e)
