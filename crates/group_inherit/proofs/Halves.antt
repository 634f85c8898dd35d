-- Lists of entries in the order of their keys: where a key stands, and the list with one entry more.
use Rattle.std.proofs.Common.{◌≡◌, ℕ, zero, suc, ◌+◌, ◌<◌, cond, T, List, [], ◌∷◌, Some, None, refl, sym, ap, subst, ◌∙◌, take, drop, length, get_or, set, arith, add-one, Result, Ok, Err, OnOk, OnErr, Ordering, Less, Equal, Greater}
use Rattle.std.specs.Cmp.{IsTotalOrder}
use Rattle.std.specs.FinMap as map
use Rattle.std.specs.FinMap.Entries.{find, put, is_sorted, below_all, is_sorted-put, by_order}
use Rattle.std.specs.List.{insert}
use Rattle.std.specs.Ordering.{is_lt, is_eq, ordering_reverse}
use Rattle.group_inherit.specs.inner.Halves.{IsBehindAll, IsBeforeAll, IsPlace}
use Rattle.group_inherit.proofs.Puts.{first, second, less}

module _ {K : Type 0} {R : K → K → Ordering} (o : IsTotalOrder R) where
  pub turned : (x y : K) → R x y ≡ Greater → R y x ≡ Less
  turned x y t = o.antisymm y x ∙ ap ordering_reverse t

  past : (k x y : K) → R x y ≡ Less → R k y ≡ Greater → R k x ≡ Greater
  past k x y a b = o.antisymm k x ∙ ap ordering_reverse (o.trans x y k a (turned k y b))

  -- a key is after what stands before its place
  passed_at : (k x y : K) → R k y ≡ Equal → R x y ≡ Less → R k x ≡ Greater
  passed_at k x y t l = o.congr k y x t ∙ (o.antisymm y x ∙ ap ordering_reverse l)

pub same_item : {A : Type 0} (xs : List A) (i : ℕ) (c d : A) → i < length xs → get_or xs i c ≡ get_or xs i d
same_item [] i c d h = absurd (omega (arith, h))
same_item (x ∷ xs) zero c d h = refl
same_item (x ∷ xs) (suc i) c d h = same_item xs i c d (omega (arith, h))

module _ {K X : Type 0} {R : K → K → Ordering} (o : IsTotalOrder R) where
  -- What is found.

  passed_find : (k : K) (i : ℕ) (es : List (K × X)) → IsBehindAll R k (take i es) → find R k es ≡ find R k (drop i es)
  passed_find k zero es h = refl
  passed_find k (suc i) [] h = refl
  passed_find k (suc i) (e ∷ es) h = ap (λ r. cond (is_eq r) (Some e.1) (find R k es)) h.0 ∙ passed_find k i es h.1

  pub ahead_none : (k : K) (es : List (K × X)) → IsBeforeAll R k es → find R k es ≡ None
  ahead_none k [] h = refl
  ahead_none k (e ∷ es) h = ap (λ r. cond (is_eq r) (Some e.1) (find R k es)) h.0 ∙ ahead_none k es h.1

  pub find_none : (k : K) (i : ℕ) (es : List (K × X)) → IsBehindAll R k (take i es) → IsBeforeAll R k (drop i es) → find R k es ≡ None
  find_none k i es h a = passed_find k i es h ∙ ahead_none k (drop i es) a

  pub find_here : (k : K) (i : ℕ) (es : List (K × X)) (e : K × X) → IsBehindAll R k (take i es) → i < length es → e ≡ get_or es i e → R k e.0 ≡ Equal → find R k es ≡ Some e.1
  find_here k zero [] e h l is t = absurd (omega arith)
  find_here k zero (x ∷ es) e h l is t =
      ap (λ (y : K × X). cond (is_eq (R k y.0)) (Some y.1) (find R k es)) (sym is) ∙ ap (λ r. cond (is_eq r) (Some e.1) (find R k es)) t
  find_here k (suc i) [] e h l is t = absurd (omega arith)
  find_here k (suc i) (x ∷ es) e h l is t = ap (λ r. cond (is_eq r) (Some x.1) (find R k es)) h.0 ∙ find_here k i es e h.1 (omega arith) is t

  -- What is put.

  pub put_new : (k : K) (v : X) (i : ℕ) (es : List (K × X)) → IsBehindAll R k (take i es) → IsBeforeAll R k (drop i es) → put R k v es ≡ insert es i (k, v)
  put_new k v zero [] h a = refl
  put_new k v zero (e ∷ es) h a = ap (λ r. by_order r ((k, v) ∷ e ∷ es) ((e.0, v) ∷ es) (e ∷ put R k v es)) a.0
  put_new k v (suc i) [] h a = refl
  put_new k v (suc i) (e ∷ es) h a =
      ap (λ r. by_order r ((k, v) ∷ e ∷ es) ((e.0, v) ∷ es) (e ∷ put R k v es)) h.0 ∙ ap (λ (l : List (K × X)). e ∷ l) (put_new k v i es h.1 a)

  pub put_over : (k : K) (v : X) (i : ℕ) (es : List (K × X)) (e : K × X) → IsBehindAll R k (take i es) → i < length es → e ≡ get_or es i e → R k e.0 ≡ Equal → put R k v es ≡ set es i (e.0, v)
  put_over k v zero [] e h l is t = absurd (omega arith)
  put_over k v zero (x ∷ es) e h l is t =
      ap (λ (y : K × X). by_order (R k y.0) ((k, v) ∷ y ∷ es) ((y.0, v) ∷ es) (y ∷ put R k v es)) (sym is)
      ∙ ap (λ r. by_order r ((k, v) ∷ e ∷ es) ((e.0, v) ∷ es) (e ∷ put R k v es)) t
  put_over k v (suc i) [] e h l is t = absurd (omega arith)
  put_over k v (suc i) (x ∷ es) e h l is t =
      ap (λ r. by_order r ((k, v) ∷ x ∷ es) ((x.0, v) ∷ es) (x ∷ put R k v es)) h.0 ∙ ap (λ (l : List (K × X)). x ∷ l) (put_over k v i es e h.1 (omega arith) is t)

  pub put_same : map.IsAntisymmetric R → (k : K) (v : X) (i : ℕ) (es : List (K × X)) (d : K × X) → IsPlace R k es i → put R k v es ≡ set es i (k, v)
  put_same same k v i es d p =
      let e : K × X = get_or es i d in
      put_over k v i es e p.passed p.within (same_item es i d e p.within) (p.same d) ∙ ap (λ x. set es i (x, v)) (sym (same k e.0 (p.same d)))

  -- The turns of a search.

  below_at : (x : K) (es : List (K × X)) (i : ℕ) (e : K × X) → T (below_all R x es) → i < length es → e ≡ get_or es i e → R x e.0 ≡ Less
  below_at x [] i e h l is = absurd (omega arith)
  below_at x (y ∷ es) zero e h l is = ap (λ (z : K × X). R x z.0) is ∙ less (R x y.0) (first (is_lt (R x y.0)) (below_all R x es) h)
  below_at x (y ∷ es) (suc i) e h l is = below_at x es i e (second (is_lt (R x y.0)) (below_all R x es) h) (omega arith) is

  pub passes : (k : K) (es : List (K × X)) (i : ℕ) (e : K × X) → T (is_sorted R es) → i < length es → e ≡ get_or es i e → R k e.0 ≡ Greater → IsBehindAll R k (take (suc i) es)
  passes k [] i e s l is t = absurd (omega arith)
  passes k (x ∷ es) zero e s l is t = (ap (λ (y : K × X). R k y.0) (sym is) ∙ t, tt)
  passes k (x ∷ es) (suc i) e s l is t = (
    past o k x.0 e.0 (below_at x.0 es i e (first (below_all R x.0 es) (is_sorted R es) s) (omega arith) is) t,
    passes k es i e (second (below_all R x.0 es) (is_sorted R es) s) (omega arith) is t,
  )

  all_ahead : (k x : K) (es : List (K × X)) → R k x ≡ Less → T (below_all R x es) → IsBeforeAll R k es
  all_ahead k x [] t h = tt
  all_ahead k x (e ∷ es) t h = (
    o.trans k x e.0 t (less (R x e.0) (first (is_lt (R x e.0)) (below_all R x es) h)),
    all_ahead k x es t (second (is_lt (R x e.0)) (below_all R x es) h),
  )

  pub stops : (k : K) (es : List (K × X)) (i : ℕ) (e : K × X) → T (is_sorted R es) → i < length es → e ≡ get_or es i e → R k e.0 ≡ Less → IsBeforeAll R k (drop i es)
  stops k [] i e s l is t = absurd (omega arith)
  stops k (x ∷ es) zero e s l is t =
      let k_x : R k x.0 ≡ Less = ap (λ (y : K × X). R k y.0) (sym is) ∙ t in
      (k_x, all_ahead k x.0 es k_x (first (below_all R x.0 es) (is_sorted R es) s))
  stops k (x ∷ es) (suc i) e s l is t = stops k es i e (second (below_all R x.0 es) (is_sorted R es) s) (omega arith) is t

  pub passes_one : (k : K) (es : List (K × X)) (i : ℕ) (e : K × X) → T (is_sorted R es) → i < length es → e ≡ get_or es i e → R k e.0 ≡ Greater → IsBehindAll R k (take (i + 1) es)
  passes_one k es i e s l is t = subst (λ n. IsBehindAll R k (take n es)) (sym (add-one i)) (passes k es i e s l is t)

  pub passed_before : (k : K) (es : List (K × X)) (i : ℕ) (e : K × X) → T (is_sorted R es) → i < length es → e ≡ get_or es i e → R k e.0 ≡ Equal → IsBehindAll R k (take i es)
  passed_before k [] i e s l is t = absurd (omega arith)
  passed_before k (x ∷ es) zero e s l is t = tt
  passed_before k (x ∷ es) (suc i) e s l is t = (
    passed_at o k x.0 e.0 t (below_at x.0 es i e (first (below_all R x.0 es) (is_sorted R es) s) (omega arith) is),
    passed_before k es i e (second (below_all R x.0 es) (is_sorted R es) s) (omega arith) is t,
  )

  -- The map of a list.

  pub put_sorted : (k : K) (v : X) (es fs : List (K × X)) → T (is_sorted R es) → fs ≡ put R k v es → T (is_sorted R fs)
  put_sorted k v es fs s is = subst (λ (l : List (K × X)). T (is_sorted R l)) (sym is) (is_sorted-put R o k v es s)

  pub put_map : (k : K) (v : X) (es fs : List (K × X)) → T (is_sorted R es) → fs ≡ put R k v es → map.from_sorted {R = R} fs ≡ map.insert (map.from_sorted es) k v
  put_map k v es fs s is = map.same_entries_map (map.from_sorted fs) (map.insert (map.from_sorted es) k v) (
      map.entries-from_sorted R fs (put_sorted k v es fs s is)
      ∙ (is ∙ (ap (put R k v) (sym (map.entries-from_sorted R es s)) ∙ sym (map.entries-insert o (map.from_sorted es) k v))))

  pub no_entries : map.IsAntisymmetric R → (es : List (K × X)) → es ≡ [] → map.from_sorted {R = R} es ≡ map.empty
  no_entries same es e = ap (λ l. map.from_sorted {R = R} l) e ∙ map.same_map o same (map.from_sorted []) map.empty (λ q. map.get-from_sorted R [] q tt ∙ sym (map.get-empty R q))

  pub listed : (es : List (K × X)) (now : map.FinMap R X) → T (is_sorted R es) → map.from_sorted es ≡ now → es ≡ map.entries now
  listed es now s e = sym (map.entries-from_sorted R es s) ∙ ap map.entries e

  pub put_listed : (k : K) (v : X) (es fs : List (K × X)) (now : map.FinMap R X) → T (is_sorted R es) → map.from_sorted es ≡ now → fs ≡ put R k v es → map.from_sorted fs ≡ map.insert now k v
  put_listed k v es fs now s e is = put_map k v es fs s is ∙ ap (λ m. map.insert m k v) e

  -- whether the entry was put or not, the list is in order
  pub either_sorted : {A B : Type 0} (r : Result A B) (k : K) (v : X) (es fs : List (K × X)) → T (is_sorted R es) → OnOk r (fs ≡ put R k v es) → OnErr r (fs ≡ es) → T (is_sorted R fs)
  either_sorted (Ok x) k v es fs s ok err = put_sorted k v es fs s ok
  either_sorted (Err x) k v es fs s ok err = subst (λ l. T (is_sorted R l)) (sym err) s
