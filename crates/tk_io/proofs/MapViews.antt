-- A `BTreeMap` whose keys and values are shown as data, seen as a finite map. The calls of every map type rest on these.
use Rattle.std.proofs.Common.{◌≡◌, ℕ, suc, Bool, true, false, ◌&&◌, cond, T, List, [], ◌∷◌, length, Option, Some, None, option_map, refl, sym, ap, subst, ◌∙◌, Ordering, Less, Equal, Greater}
use Rattle.std.specs.Prelude.{slice_get}
use Rattle.std.proofs.lemmas.Option.{slice_get-map}
use Rattle.std.specs.FinMap as map
use Rattle.std.specs.FinMap.{IsAntisymmetric}
use Rattle.std.specs.FinMap.Entries.{is_sorted, find, find-put, below_all, put, by_order}
use Rattle.std.specs.BTreeMap.{is_at, insert_entry}
use Rattle.std.specs.Cmp.{IsTotalOrder, eq_by_cmp_equiv}
use Rattle.std.specs.List.{AllByRecursion}
use Rattle.std.specs.List.Sorted.{IsStrictlySortedBy}
use Rattle.std.specs.Map.{keys_of, lookup, remove_entry}
use Rattle.std.specs.Ordering.{eq_by_cmp, is_lt, is_eq, match_ordering}
use Rattle.tk_io.specs.View.{entries_view}

both : (a b : Bool) → T a → T b → T (a && b)
both true b p q = q
both false b p q = p

-- a choice between two options, under a function of what they hold
pushed : {X Y : Type 0} (f : X → Y) (b : Bool) (v o : Option X) → cond b (option_map f v) (option_map f o) ≡ option_map f (cond b v o)
pushed f true v o = refl
pushed f false v o = refl

tied : (r : Ordering) → is_eq r ≡ true → r ≡ Equal
tied Less e = cc
tied Equal e = refl
tied Greater e = cc

module _ {K L X Y : Type 0} (R : L → L → Ordering) (g : K → L) (f : X → Y) where
  -- a look-up among the shown entries is what the look-up among the entries shows
  pub find_shown : (es : List (K × X)) (q : L) → find R q (entries_view g f es) ≡ option_map f (lookup (λ k. is_eq (R q (g k))) es)
  find_shown [] q = refl
  find_shown (e ∷ es) q = ap (cond (eq_by_cmp R q (g e.0)) (Some (f e.1))) (find_shown es q) ∙ pushed f (eq_by_cmp R q (g e.0)) (Some e.1) _

  below : (k : K) (es : List (K × X)) → AllByRecursion (λ y. R (g k) (g y) ≡ Less) (keys_of es) → T (below_all R (g k) (entries_view g f es))
  below k [] h = tt
  below k (e ∷ es) h = both _ _ (subst (λ r. T (is_lt r)) (sym h.0) tt) (below k es h.1)

  sorted_shown : (es : List (K × X)) → IsStrictlySortedBy (λ j k. R (g j) (g k)) (keys_of es) → T (is_sorted R (entries_view g f es))
  unfolding IsStrictlySortedBy
  sorted_shown [] h = tt
  sorted_shown (e ∷ es) h = both _ _ (below e.0 es h.0) (sorted_shown es h.1)

  put_shown : (es : List (K × X)) (k : K) (v : X) → entries_view g f (insert_entry (λ i j. R (g i) (g j)) es k v) ≡ put R (g k) (f v) (entries_view g f es)
  put_shown [] k v = refl
  put_shown (e ∷ es) k v =
      elim (R (g k) (g e.0)) as (λ o. entries_view g f (match_ordering o ((k, v) ∷ e ∷ es) ((e.0, v) ∷ es) (e ∷ insert_entry (λ i j. R (g i) (g j)) es k v)) ≡ by_order o ((g k, f v) ∷ entries_view g f (e ∷ es)) ((g e.0, f v) ∷ entries_view g f es) ((g e.0, f e.1) ∷ put R (g k) (f v) (entries_view g f es))) [
        | Less ↦ refl
        | Equal ↦ refl
        | Greater ↦ ap (λ r. (g e.0, f e.1) ∷ r) (put_shown es k v)
      ]

module _ {K L X Y : Type 0} {R : L → L → Ordering} (o : IsTotalOrder R) (same : IsAntisymmetric R) (g : K → L) (f : X → Y) where
  pub get_shown : (es : List (K × X)) (q : L) → map.get (map.from_entries {R = R} (entries_view g f es)) q ≡ option_map f (lookup (λ k. is_eq (R q (g k))) es)
  get_shown es q = map.get-from_entries o (entries_view g f es) q ∙ find_shown R g f es q

  pub insert_shown : (es fs : List (K × X)) (k : K) (v : X) → fs ≡ insert_entry (λ i j. R (g i) (g j)) es k v
      → map.from_entries {R = R} (entries_view g f fs) ≡ map.insert (map.from_entries (entries_view g f es)) (g k) (f v)
  insert_shown es fs k v h = map.same_map o same _ _ (λ q.
      map.get-from_entries o (entries_view g f fs) q
      ∙ (ap (λ l. find R q (entries_view g f l)) h ∙ (ap (find R q) (put_shown R g f es k v) ∙ (find-put R o q (g k) (f v) (entries_view g f es)
      ∙ (sym (ap (cond (eq_by_cmp R q (g k)) (Some (f v))) (map.get-from_entries o (entries_view g f es) q))
      ∙ sym (map.get-insert o (map.from_entries (entries_view g f es)) (g k) (f v) q))))))

  -- a key that does not tie with the one taken away is found as before
  found_still : (k q : L) → is_eq (R q k) ≡ false → (es : List (K × X)) → find R q (entries_view g f (remove_entry (λ x. is_eq (R k (g x))) es)) ≡ find R q (entries_view g f es)
  found_still k q apart [] = refl
  found_still k q apart (e ∷ es) =
      elim (is_eq (R k (g e.0))) as (λ b. is_eq (R k (g e.0)) ≡ b → find R q (entries_view g f (cond b es (e ∷ remove_entry (λ x. is_eq (R k (g x))) es))) ≡ find R q (entries_view g f (e ∷ es))) [
        | true ↦ λ t. ap (λ b. cond b (Some (f e.1)) (find R q (entries_view g f es))) (sym apart ∙ ap (λ x. is_eq (R q x)) (same k (g e.0) (tied _ t)))
        | false ↦ λ _. ap (cond (eq_by_cmp R q (g e.0)) (Some (f e.1))) (found_still k q apart es)
      ] refl

  pub remove_shown : (es fs : List (K × X)) (k : L) → fs ≡ remove_entry (λ x. is_eq (R k (g x))) es → lookup (λ x. is_eq (R k (g x))) fs ≡ None
      → map.from_entries {R = R} (entries_view g f fs) ≡ map.remove (map.from_entries (entries_view g f es)) k
  remove_shown es fs k h gone = map.same_map o same _ _ (λ q.
      map.get-from_entries o (entries_view g f fs) q
      ∙ (elim (is_eq (R q k)) as (λ b. is_eq (R q k) ≡ b → find R q (entries_view g f fs) ≡ cond b None (map.get (map.from_entries {R = R} (entries_view g f es)) q)) [
        | true ↦ λ t. ap (λ x. find R x (entries_view g f fs)) (same q k (tied _ t)) ∙ (find_shown R g f fs k ∙ ap (option_map f) gone)
        | false ↦ λ t. ap (λ l. find R q (entries_view g f l)) h ∙ (found_still k q t es ∙ sym (map.get-from_entries o (entries_view g f es) q))
      ] refl
      ∙ sym (map.get-remove o (map.from_entries (entries_view g f es)) k q)))

  -- the map's entries are the shown ones, in order
  pub entries_shown : (es : List (K × X)) → IsStrictlySortedBy (λ j k. R (g j) (g k)) (keys_of es) → map.entries (map.from_entries {R = R} (entries_view g f es)) ≡ entries_view g f es
  entries_shown es h =
      let ss = entries_view g f es in
      let sorted = sorted_shown R g f es h in
      ap map.entries (map.same_map o same (map.from_entries ss) (map.from_sorted ss) (λ q. map.get-from_entries o ss q ∙ sym (map.get-from_sorted R ss q sorted)))
      ∙ map.entries-from_sorted R ss sorted

  length_shown : (es : List (K × X)) → length (entries_view g f es) ≡ length es
  length_shown [] = refl
  length_shown (e ∷ es) = ap suc (length_shown es)

  pub len_shown : (es : List (K × X)) → IsStrictlySortedBy (λ j k. R (g j) (g k)) (keys_of es) → map.len (map.from_entries {R = R} (entries_view g f es)) ≡ length es
  len_shown es h = map.len-entries (map.from_entries (entries_view g f es)) ∙ (ap length (entries_shown es h) ∙ length_shown es)

-- what stands at each key after an insertion, and after a removal
module _ {L Y : Type 0} {R : L → L → Ordering} (o : IsTotalOrder R) where
  pub at_insert : (m : map.FinMap R Y) (k : L) (v : Y) (q : L) → map.get (map.insert m k v) q ≡ cond (is_at (R k) q) (Some v) (map.get m q)
  at_insert m k v q = map.get-insert o m k v q ∙ ap (λ b. cond b (Some v) (map.get m q)) ((eq_by_cmp_equiv o).symm q k)

  pub at_remove : (m : map.FinMap R Y) (k : L) (q : L) → map.get (map.remove m k) q ≡ cond (is_at (R k) q) None (map.get m q)
  at_remove m k q = map.get-remove o m k q ∙ ap (λ b. cond b None (map.get m q)) ((eq_by_cmp_equiv o).symm q k)

-- an item at an index, and what is shown there
pub item_shown : {K L X Y : Type 0} (g : K → L) (f : X → Y) (es : List (K × X)) (i : ℕ) → option_map {U = L × Y} (λ e. (g e.0, f e.1)) (slice_get es i) ≡ slice_get (entries_view g f es) i
item_shown g f es i = sym (slice_get-map _ es i)
