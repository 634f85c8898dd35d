-- Entries put into a finite map in the order of their keys.
use Rattle.std.proofs.Common.{◌≡◌, ℕ, zero, suc, drop, Bool, true, false, ◌&&◌, cond, T, List, [], ◌∷◌, Option, Some, None, refl, sym, ap, ◌∙◌, Ordering, Less, Equal, Greater}
use Rattle.std.specs.FinMap as map
use Rattle.std.specs.FinMap.{IsAntisymmetric}
use Rattle.std.specs.FinMap.Entries.{find, is_sorted, below_all, where_key, is_sorted-where_key, find-where_key}
use Rattle.std.specs.Cmp.{IsTotalOrder}
use Rattle.std.specs.Ordering.{eq_by_cmp, is_lt, is_eq}
use Rattle.group_inherit.specs.Merging.{either}
use Rattle.group_inherit.specs.Putting.{put_all}

pub first : (a b : Bool) → T (a && b) → T a
first true b p = tt
first false b p = p

pub second : (a b : Bool) → T (a && b) → T b
second true b p = p
second false b p = absurd p

pub less : (o : Ordering) → T (is_lt o) → o ≡ Less
less Less p = refl
less Equal p = absurd p
less Greater p = absurd p

tied : (r : Ordering) → is_eq r ≡ true → r ≡ Equal
tied Less e = cc
tied Equal e = refl
tied Greater e = cc

pub either_none : {A : Type 0} (x : Option A) → either x None ≡ x
either_none None = refl
either_none (Some x) = refl

module _ {K X : Type 0} (R : K → K → Ordering) where
  -- a key below each key of a list is not found in it
  pub none_below : (x : K) (es : List (K × X)) → T (below_all R x es) → find R x es ≡ None
  none_below x [] h = refl
  none_below x (e ∷ es) h = ap (λ r. cond (is_eq r) (Some e.1) (find R x es)) (less _ (first _ _ h)) ∙ none_below x es (second _ _ h)

  pub sorted_drop : (i : ℕ) (es : List (K × X)) → T (is_sorted R es) → T (is_sorted R (drop i es))
  sorted_drop zero es h = h
  sorted_drop (suc i) [] h = tt
  sorted_drop (suc i) (e ∷ es) h = sorted_drop i es (second _ _ h)

module _ {K X : Type 0} {R : K → K → Ordering} (o : IsTotalOrder R) (same : IsAntisymmetric R) where
  pub get_put_all : (es : List (K × X)) → T (is_sorted R es) → (m : map.FinMap R X) (q : K) → map.get (put_all es m) q ≡ either (find R q es) (map.get m q)
  get_put_all [] h m q = refl
  get_put_all (e ∷ es) h m q =
      get_put_all es (second (below_all R e.0 es) (is_sorted R es) h) (map.insert m e.0 e.1) q
      ∙ (ap (either (find R q es)) (map.get-insert o m e.0 e.1 q)
      ∙ elim (eq_by_cmp R q e.0) as (λ b. eq_by_cmp R q e.0 ≡ b → either (find R q es) (cond b (Some e.1) (map.get m q)) ≡ either (cond b (Some e.1) (find R q es)) (map.get m q)) [
        | true ↦ λ t. ap (λ x. either x (Some e.1)) (ap (λ k. find R k es) (same q e.0 (tied _ t)) ∙ none_below R e.0 es (first (below_all R e.0 es) (is_sorted R es) h))
        | false ↦ λ t. refl
      ] refl)

  -- the entries of a map make it again
  pub put_entries : (m : map.FinMap R X) → put_all (map.entries m) map.empty ≡ m
  put_entries m = map.same_map o same _ m (λ q.
      get_put_all (map.entries m) (map.entries_sorted m) map.empty q
      ∙ (ap (either (find R q (map.entries m))) (map.get-empty R q)
      ∙ (either_none _ ∙ sym (map.get-entries m q))))

  -- and those whose keys pass a test, put one after the other, are what is kept
  pub put_kept : (m : map.FinMap R X) (p : K → Bool) → ((q x : K) → R q x ≡ Equal → p x ≡ p q) → put_all (where_key R p (map.entries m)) map.empty ≡ map.retain_keys m p
  put_kept m p alike = map.same_map o same _ (map.retain_keys m p) (λ q.
      get_put_all (where_key R p (map.entries m)) (is_sorted-where_key R p (map.entries m) (map.entries_sorted m)) map.empty q
      ∙ (ap (either (find R q (where_key R p (map.entries m)))) (map.get-empty R q)
      ∙ (either_none _
      ∙ (find-where_key R p q (alike q) (map.entries m)
      ∙ (ap (λ v. cond (p q) v None) (sym (map.get-entries m q))
      ∙ sym (map.get-retain_keys m p q (alike q)))))))
