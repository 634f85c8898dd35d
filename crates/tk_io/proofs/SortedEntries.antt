-- A list of entries whose keys rise, as a finite map: looked through by halves, put into at a place, written over at
-- one, taken from. For every map that is kept as such a list, here and in the crates above.
use Rattle.std.proofs.Common.{◌≡◌, ◌<◌, ◌≤◌, ℕ, zero, suc, ◌+◌, ◌-◌, Bool, true, false, ◌&&◌, not, cond, T, List, [], ◌∷◌, length, set, Some, None, Result, Ok, Err, refl, sym, ap, subst, ◌∙◌, arith, Ordering, Less, Equal, Greater}
use Rattle.std.specs.Cmp.{IsTotalOrder, tied_itself, alike_right, eq_by_cmp_equiv}
use Rattle.std.specs.FinMap as map
use Rattle.std.specs.FinMap.{IsAntisymmetric}
use Rattle.std.specs.FinMap.Entries.{is_sorted, find, find-where_key, below_all, put, by_order, where_key, is_sorted-put, is_sorted-where_key}
use Rattle.std.specs.List.{insert, remove}
use Rattle.std.specs.List.Sorted.{IsBinarySearchResult, IsPartitionPoint, IsSearchInRange, IsSortedBy, IsNonDecreasingBy}
use Rattle.std.specs.Ordering.{is_lt, is_eq, eq_by_cmp, ordering_index, ordering_reverse}
use Rattle.std.specs.Prelude.{slice_get, slice_index_or}
use Rattle.std.proofs.lemmas.Option.{none-some, same_Some}
use Rattle.std.proofs.lemmas.List.{get_or_default, length-map}
use Rattle.std.proofs.lemmas.List.Sorted.{searchable_from_sorted}
use Rattle.tk_io.specs.Search.{IsKeyPlace}
use Rattle.tk_io.specs.View.{keyed_view, entries_view}

first : (a b : Bool) → T (a && b) → T a
first true b p = tt
first false b p = p

second : (a b : Bool) → T (a && b) → T b
second true b p = p
second false b p = absurd p

less : (r : Ordering) → T (is_lt r) → r ≡ Less
less Less p = refl
less Equal p = absurd p
less Greater p = absurd p

pub is_less : (r : Ordering) → is_lt r ≡ true → r ≡ Less
is_less r e = less r (subst T (sym e) tt)

index_less : (r : Ordering) → ordering_index r ≤ 0 → r ≡ Less
index_less Less h = refl
index_less Equal h = absurd (omega (arith, h))
index_less Greater h = absurd (omega (arith, h))

index_greater : (r : Ordering) → 2 ≤ ordering_index r → r ≡ Greater
index_greater Less h = absurd (omega (arith, h))
index_greater Equal h = absurd (omega (arith, h))
index_greater Greater h = refl

swapped_cond : {A : Type 0} (b : Bool) (x y : A) → cond (not b) x y ≡ cond b y x
swapped_cond true x y = refl
swapped_cond false x y = refl

module _ {E L Y : Type 0} {R : L → L → Ordering} (o : IsTotalOrder R) (key : E → L) (value : E → Y) where
  -- the key of an entry is below the keys of those after it
  later : (x : E) (xs : List E) → T (below_all R (key x) (keyed_view key value xs)) → (i : ℕ) (d : E) → i < length xs → R (key x) (key (slice_index_or xs i d)) ≡ Less
  later x [] h i d within = absurd (omega (arith, within))
  later x (y ∷ ys) h zero d within = less _ (first _ _ h)
  later x (y ∷ ys) h (suc i) d within = later x ys (second _ _ h) i d (omega (arith, within))

  turned : (a b : L) (r : Ordering) → R a b ≡ r → R b a ≡ ordering_reverse r
  turned a b r e = o.antisymm b a ∙ ap ordering_reverse e

  -- an entry before one that ties with a key is below that key
  before : (x : E) (xs : List E) (q : L) → T (below_all R (key x) (keyed_view key value xs)) → (i : ℕ) (d : E) → i < length xs → R (key (slice_index_or xs i d)) q ≡ Equal → R q (key x) ≡ Greater
  before x xs q h i d within tie =
      turned (key x) q Less (sym (alike_right o (key (slice_index_or xs i d)) q (key x) tie) ∙ later x xs h i d within)

  -- the entry that ties with a key is found
  pub found_at : (q : L) (es : List E) (i : ℕ) (d : E) → T (is_sorted R (keyed_view key value es)) → i < length es → R (key (slice_index_or es i d)) q ≡ Equal → find R q (keyed_view key value es) ≡ Some (value (slice_index_or es i d))
  found_at q [] i d h within tie = absurd (omega (arith, within))
  found_at q (x ∷ xs) zero d h within tie = ap (λ r. cond (is_eq r) (Some (value x)) (find R q (keyed_view key value xs))) (turned (key x) q Equal tie)
  found_at q (x ∷ xs) (suc i) d h within tie =
      let below : i < length xs = omega (arith, within) in
      ap (λ r. cond (is_eq r) (Some (value x)) (find R q (keyed_view key value xs))) (before x xs q (first _ _ h) i d below tie)
      ∙ found_at q xs i d (second _ _ h) below tie

  -- a key's place: the entries before it are below the key, and those after it are above
  abbrev pub IsPlace : L → List E → ℕ → Type 0
  IsPlace q es i = IsPartitionPoint (λ y. R (key y) q ≡ Less) (λ y. R (key y) q ≡ Greater) es i

  place_behind : (q : L) (x : E) (xs : List E) (i : ℕ) → IsPlace q (x ∷ xs) (suc i) → IsPlace q xs i
  place_behind q x xs i h = (λ k d low high. h.0 (suc k) d (omega arith) (omega (arith, high)), λ k d low high. h.1 (suc k) d (omega (arith, low)) (omega (arith, high)))

  place_above : (q : L) (x : E) (xs : List E) → IsPlace q (x ∷ xs) 0 → IsPlace q xs 0
  place_above q x xs h = (λ k d low high. absurd (omega (arith, high)), λ k d low high. h.1 (suc k) d (omega arith) (omega (arith, high)))

  -- a key that has a place is not found
  pub missed_at : (q : L) (es : List E) (i : ℕ) → IsPlace q es i → find R q (keyed_view key value es) ≡ None
  missed_at q [] i h = refl
  missed_at q (x ∷ xs) zero h =
      ap (λ r. cond (is_eq r) (Some (value x)) (find R q (keyed_view key value xs))) (turned (key x) q Greater (h.1 0 x (omega arith) (omega arith)))
      ∙ missed_at q xs 0 (place_above q x xs h)
  missed_at q (x ∷ xs) (suc i) h =
      ap (λ r. cond (is_eq r) (Some (value x)) (find R q (keyed_view key value xs))) (turned (key x) q Less (h.0 0 x (omega arith) (omega arith)))
      ∙ missed_at q xs i (place_behind q x xs i h)

  -- the step of `put` at an entry, by how the key compares with it
  put_step : (e x : E) (xs : List E) (r : Ordering) → R (key e) (key x) ≡ r → put R (key e) (value e) (keyed_view key value (x ∷ xs)) ≡ by_order r ((key e, value e) ∷ keyed_view key value (x ∷ xs)) ((key x, value e) ∷ keyed_view key value xs) ((key x, value x) ∷ put R (key e) (value e) (keyed_view key value xs))
  put_step e x xs r c = ap (λ s. by_order s ((key e, value e) ∷ keyed_view key value (x ∷ xs)) ((key x, value e) ∷ keyed_view key value xs) ((key x, value x) ∷ put R (key e) (value e) (keyed_view key value xs))) c

  -- an entry put in at its key's place
  pub put_at : (e : E) (es : List E) (i : ℕ) → i ≤ length es → IsPlace (key e) es i → keyed_view key value (insert es i e) ≡ put R (key e) (value e) (keyed_view key value es)
  put_at e [] zero within h = refl
  put_at e [] (suc i) within h = absurd (omega (arith, within))
  put_at e (x ∷ xs) zero within h = sym (put_step e x xs Less (turned (key x) (key e) Greater (h.1 0 x (omega arith) (omega arith))))
  put_at e (x ∷ xs) (suc i) within h =
      ap (λ l. (key x, value x) ∷ l) (put_at e xs i (omega (arith, within)) (place_behind (key e) x xs i h))
      ∙ sym (put_step e x xs Greater (turned (key x) (key e) Less (h.0 0 x (omega arith) (omega arith))))

  -- an entry written over one of its key
  pub put_over : (e : E) (es : List E) (i : ℕ) (d : E) → T (is_sorted R (keyed_view key value es)) → i < length es → key (slice_index_or es i d) ≡ key e → keyed_view key value (set es i e) ≡ put R (key e) (value e) (keyed_view key value es)
  put_over e [] i d h within same = absurd (omega (arith, within))
  put_over e (x ∷ xs) zero d h within same =
      sym (put_step e x xs Equal (ap (λ k. R (key e) k) same ∙ tied_itself o (key e)) ∙ ap (λ k. (k, value e) ∷ keyed_view key value xs) same)
  put_over e (x ∷ xs) (suc i) d h within same =
      let below : i < length xs = omega (arith, within) in
      ap (λ l. (key x, value x) ∷ l) (put_over e xs i d (second _ _ h) below same)
      ∙ sym (put_step e x xs Greater (before x xs (key e) (first _ _ h) i d below (ap (λ k. R k (key e)) same ∙ tied_itself o (key e))))

  -- entries that are all above a key are all kept without it
  kept : (q : L) (es : List E) → IsPlace q es 0 → where_key R (λ k. not (eq_by_cmp R q k)) (keyed_view key value es) ≡ keyed_view key value es
  kept q [] h = refl
  kept q (x ∷ xs) h =
      ap (λ r. cond (not (is_eq r)) ((key x, value x) ∷ where_key R (λ k. not (eq_by_cmp R q k)) (keyed_view key value xs)) (where_key R (λ k. not (eq_by_cmp R q k)) (keyed_view key value xs))) (turned (key x) q Greater (h.1 0 x (omega arith) (omega arith)))
      ∙ ap (λ l. (key x, value x) ∷ l) (kept q xs (place_above q x xs h))

  -- the entries after one that ties with a key are above that key
  above : (x : E) (xs : List E) (q : L) → R (key x) q ≡ Equal → T (below_all R (key x) (keyed_view key value xs)) → IsPlace q xs 0
  above x xs q tie h = (λ k d low high. absurd (omega (arith, high)), λ k d low high. turned q (key (slice_index_or xs k d)) Less (sym (o.congr (key x) q (key (slice_index_or xs k d)) tie) ∙ later x xs h k d high))

  -- an entry taken out
  pub taken_at : (q : L) (es : List E) (i : ℕ) (d : E) → T (is_sorted R (keyed_view key value es)) → i < length es → R (key (slice_index_or es i d)) q ≡ Equal → keyed_view key value (remove es i) ≡ where_key R (λ k. not (eq_by_cmp R q k)) (keyed_view key value es)
  taken_at q [] i d h within tie = absurd (omega (arith, within))
  taken_at q (x ∷ xs) zero d h within tie =
      sym (ap (λ r. cond (not (is_eq r)) ((key x, value x) ∷ where_key R (λ k. not (eq_by_cmp R q k)) (keyed_view key value xs)) (where_key R (λ k. not (eq_by_cmp R q k)) (keyed_view key value xs))) (turned (key x) q Equal tie)
      ∙ kept q xs (above x xs q tie (first _ _ h)))
  taken_at q (x ∷ xs) (suc i) d h within tie =
      let below : i < length xs = omega (arith, within) in
      ap (λ l. (key x, value x) ∷ l) (taken_at q xs i d (second _ _ h) below tie)
      ∙ sym (ap (λ r. cond (not (is_eq r)) ((key x, value x) ∷ where_key R (λ k. not (eq_by_cmp R q k)) (keyed_view key value xs)) (where_key R (λ k. not (eq_by_cmp R q k)) (keyed_view key value xs))) (before x xs q (first _ _ h) i d below tie))

  neighbours : (es : List E) → T (is_sorted R (keyed_view key value es)) → (k : ℕ) (d : E) → suc k < length es → is_lt (R (key (slice_index_or es (suc k) d)) (key (slice_index_or es k d))) ≡ false
  neighbours [] h k d within = absurd (omega (arith, within))
  neighbours (x ∷ xs) h zero d within = ap is_lt (turned (key x) (key (slice_index_or xs 0 d)) Less (later x xs (first _ _ h) 0 d (omega (arith, within))))
  neighbours (x ∷ xs) h (suc k) d within = neighbours xs (second _ _ h) k d (omega (arith, within))

  rises : (es : List E) → T (is_sorted R (keyed_view key value es)) → IsSortedBy (λ a b. is_lt (R (key a) (key b))) es
  rises es h k d low high =
      let next : k + 1 ≡ suc k = omega arith in
      subst (λ n. is_lt (R (key (slice_index_or es n d)) (key (slice_index_or es k d))) ≡ false) (sym next) (neighbours es h k d (omega (arith, high)))

  -- how the keys compare with one rises along the list, as a search by halves asks
  pub compared : (es : List E) (q : L) → T (is_sorted R (keyed_view key value es)) → IsNonDecreasingBy (λ y. ordering_index (R (key y) q)) es
  compared es q h = searchable_from_sorted o key es q (rises es h)

  -- the entries before one that is below a key are below it too
  pub below_too : (q : L) (es : List E) (m : ℕ) (d : E) → T (is_sorted R (keyed_view key value es)) → m < length es → R (key (slice_index_or es m d)) q ≡ Less → (k : ℕ) (e : E) → k ≤ m → R (key (slice_index_or es k e)) q ≡ Less
  below_too q es m d h within less_here k e before =
      let here : R (key (slice_index_or es m e)) q ≡ Less = ap (λ x. R (key x) q) (get_or_default es m e d within) ∙ less_here in
      index_less (R (key (slice_index_or es k e)) q) (omega (arith, compared es q h k m e before within, ap ordering_index here))

  -- .. and those after one that is above a key are above it too
  pub above_too : (q : L) (es : List E) (m : ℕ) (d : E) → T (is_sorted R (keyed_view key value es)) → m < length es → R (key (slice_index_or es m d)) q ≡ Greater → (k : ℕ) (e : E) → m ≤ k → k < length es → R (key (slice_index_or es k e)) q ≡ Greater
  above_too q es m d h within above_here k e behind inside =
      let here : R (key (slice_index_or es m e)) q ≡ Greater = ap (λ x. R (key x) q) (get_or_default es m e d within) ∙ above_here in
      index_greater (R (key (slice_index_or es k e)) q) (omega (arith, compared es q h m k e behind inside, ap ordering_index here))

  later_at : (x : E) (xs : List E) → T (below_all R (key x) (keyed_view key value xs)) → (i : ℕ) (l : E) → slice_get xs i ≡ Some l → R (key x) (key l) ≡ Less
  later_at x [] h i l at = absurd (none-some l at)
  later_at x (y ∷ ys) h zero l at = ap (λ z. R (key x) (key z)) (sym (same_Some y l at)) ∙ less _ (first _ _ h)
  later_at x (y ∷ ys) h (suc i) l at = later_at x ys (second _ _ h) i l at

  below_last : (q : L) (es : List E) → T (is_sorted R (keyed_view key value es)) → (n : ℕ) (l : E) → length es ≡ suc n → slice_get es n ≡ Some l → R (key l) q ≡ Less → (k : ℕ) (e : E) → k < length es → R (key (slice_index_or es k e)) q ≡ Less
  below_last q [] h n l size at last k e within = absurd (omega (arith, within))
  below_last q (x ∷ xs) h zero l size at last zero e within = ap (λ z. R (key z) q) (same_Some x l at) ∙ last
  below_last q (x ∷ xs) h zero l size at last (suc k) e within = absurd (omega (arith, size, within))
  below_last q (x ∷ xs) h (suc n) l size at last zero e within = o.trans (key x) (key l) q (later_at x xs (first _ _ h) n l at) last
  below_last q (x ∷ xs) h (suc n) l size at last (suc k) e within = below_last q xs (second _ _ h) n l (omega (arith, size)) at last k e (omega (arith, within))

  -- a key above the last belongs at the end
  pub above_last : (q : L) (es : List E) (l : E) → T (is_sorted R (keyed_view key value es)) → Some l ≡ slice_get es (length es - 1) → R (key l) q ≡ Less → IsPlace q es (length es)
  above_last q [] l h at last = absurd (none-some l (sym at))
  above_last q (x ∷ xs) l h at last =
      let here : suc (length xs) - 1 ≡ length xs = omega arith in
      (λ k e low high. below_last q (x ∷ xs) h (length xs) l refl (sym (at ∙ ap (slice_get (x ∷ xs)) here)) last k e high, λ k e low high. absurd (omega (arith, low, high)))

  -- where a search by halves ends
  pub searched : (q : L) (es : List E) (r : Result ℕ ℕ) → T (is_sorted R (keyed_view key value es)) → IsSearchInRange r (length es) → IsBinarySearchResult (λ y. R (key y) q) es r → IsKeyPlace (λ y. R (key y) q) es r
  searched q es (Ok i) h within found = (within, found)
  searched q es (Err i) h within parted = (within, parted (compared es q h))

  -- what stands at a key, by where its search ended
  pub get_found : (q : L) (es : List E) (i : ℕ) (d : E) → T (is_sorted R (keyed_view key value es)) → i < length es → R (key (slice_index_or es i d)) q ≡ Equal → map.get (map.from_sorted {R = R} (keyed_view key value es)) q ≡ Some (value (slice_index_or es i d))
  get_found q es i d h within tie = map.get-from_sorted R (keyed_view key value es) q h ∙ found_at q es i d h within tie

  pub get_missed : (q : L) (es : List E) (i : ℕ) → T (is_sorted R (keyed_view key value es)) → IsPlace q es i → map.get (map.from_sorted {R = R} (keyed_view key value es)) q ≡ None
  get_missed q es i h place = map.get-from_sorted R (keyed_view key value es) q h ∙ missed_at q es i place

-- a list with one entry put, as a map
pub record IsPut {L Y : Type 0} (R : L → L → Ordering) (xs ys : List (L × Y)) (k : L) (v : Y) : Type 0 where
  pub sorted : T (is_sorted R ys)
  pub is : {m : map.FinMap R Y} → map.from_sorted xs ≡ m → map.from_sorted ys ≡ map.insert m k v

module _ {L Y : Type 0} {R : L → L → Ordering} (o : IsTotalOrder R) where
  is_put : (xs ys : List (L × Y)) (k : L) (v : Y) → T (is_sorted R xs) → ys ≡ put R k v xs → IsPut R xs ys k v
  is_put xs ys k v h e =
      let sorted : T (is_sorted R ys) = subst (λ l. T (is_sorted R l)) (sym e) (is_sorted-put R o k v xs h) in
      let put_before = ap (put R k v) (sym (map.entries-from_sorted R xs h)) ∙ sym (map.entries-insert o (map.from_sorted xs) k v) in
      let same = map.same_entries_map _ _ (map.entries-from_sorted R ys sorted ∙ (e ∙ put_before)) in
      record { sorted = sorted; is = λ view. same ∙ ap (λ m. map.insert m k v) view }

  -- .. and with one taken away
  pub sorted_without : (xs ys : List (L × Y)) (k : L) → T (is_sorted R xs) → ys ≡ where_key R (λ x. not (eq_by_cmp R k x)) xs → T (is_sorted R ys)
  sorted_without xs ys k h e = subst (λ l. T (is_sorted R l)) (sym e) (is_sorted-where_key R (λ x. not (eq_by_cmp R k x)) xs h)

  pub without_is : IsAntisymmetric R → (xs ys : List (L × Y)) (k : L) → T (is_sorted R xs) → ys ≡ where_key R (λ x. not (eq_by_cmp R k x)) xs → map.from_sorted {R = R} ys ≡ map.remove (map.from_sorted xs) k
  without_is same xs ys k h e = map.same_map o same _ _ (λ q.
      map.get-from_sorted R ys q (sorted_without xs ys k h e)
      ∙ (ap (find R q) e ∙ (find-where_key R (λ x. not (eq_by_cmp R k x)) q (λ x t. ap (λ r. not (is_eq r)) (sym (alike_right o q x k t))) xs
      ∙ (swapped_cond (eq_by_cmp R k q) (find R q xs) None ∙ (ap (λ b. cond b None (find R q xs)) ((eq_by_cmp_equiv o).symm k q)
      ∙ (ap (cond (eq_by_cmp R q k) None) (sym (map.get-from_sorted R xs q h)) ∙ sym (map.get-remove o (map.from_sorted xs) k q)))))))

tied : (r : Ordering) → is_eq r ≡ true → r ≡ Equal
tied Less e = cc
tied Equal e = refl
tied Greater e = cc

-- a map stays as it was without a key that is not there
absent_at : {L Y : Type 0} {R : L → L → Ordering} → IsAntisymmetric R → (m : map.FinMap R Y) (k q : L) → map.get m k ≡ None → (b : Bool) → is_eq (R q k) ≡ b → map.get m q ≡ cond b None (map.get m q)
absent_at same m k q none true e = ap (map.get m) (same q k (tied _ e)) ∙ none
absent_at same m k q none false e = refl

absent_stays : {L Y : Type 0} {R : L → L → Ordering} (o : IsTotalOrder R) → IsAntisymmetric R → (m : map.FinMap R Y) (k : L) → map.get m k ≡ None → m ≡ map.remove m k
absent_stays {R = R} o same m k none = map.same_map o same _ _ (λ q. absent_at same m k q none (is_eq (R q k)) refl ∙ sym (map.get-remove o m k q))

-- a list as a map: none, how many, and the entries
pub nothing_is : {L Y : Type 0} (R : L → L → Ordering) → map.from_sorted {K = L} {X = Y} {R = R} [] ≡ map.empty
nothing_is R = map.empty_of_len (map.from_sorted []) (map.len-entries (map.from_sorted []) ∙ ap length (map.entries-from_sorted R [] tt))

module _ {L Y : Type 0} (R : L → L → Ordering) where
  pub entries_are : (xs : List (L × Y)) → T (is_sorted R xs) → xs ≡ map.entries (map.from_sorted {R = R} xs)
  entries_are xs h = sym (map.entries-from_sorted R xs h)

  pub listed_size : (xs : List (L × Y)) → T (is_sorted R xs) → length xs ≡ map.len (map.from_sorted {R = R} xs)
  listed_size xs h = ap length (entries_are xs h) ∙ sym (map.len-entries (map.from_sorted xs))

-- a list of pairs of a key, shown by g, and a value
module _ {K L X : Type 0} {R : L → L → Ordering} (o : IsTotalOrder R) (same : IsAntisymmetric R) (g : K → L) where
  abbrev pub shown : List (K × X) → List (L × X)
  shown es = entries_view g (λ v. v) es

  abbrev pub Rises : List (K × X) → Type 0
  Rises es = T (is_sorted R (shown es))

  abbrev pub Place : L → List (K × X) → Result ℕ ℕ → Type 0
  Place q es r = IsKeyPlace (λ e. R (g e.0) q) es r

  pub pair_get : (es : List (K × X)) (q : L) (i : ℕ) (d : K × X) → Rises es → Place q es (Ok i) → map.get (map.from_sorted {R = R} (shown es)) q ≡ Some (slice_index_or es i d).1
  pair_get es q i d h place = get_found o (λ e. g e.0) (λ e. e.1) q es i d h place.0 (place.1 d)

  pub pair_none : (es : List (K × X)) (q : L) (i : ℕ) → Rises es → Place q es (Err i) → map.get (map.from_sorted {R = R} (shown es)) q ≡ None
  pair_none es q i h place = get_missed o (λ e. g e.0) (λ e. e.1) q es i h place.1

  -- a value written over the one that stood at the key, which was looked for in what is seen of the entries
  pub pair_over : {seen es : List (K × X)} {q : L} {i : ℕ} {d : K × X} {v : X} → Rises es → seen ≡ es → Place q seen (Ok i)
      → d ≡ slice_index_or es i d → IsPut R (shown es) (shown (set es i (d.0, v))) q v
  pair_over {es = es} {q = q} {i = i} {d = d} {v = v} h all found is =
      let place = subst (λ l. Place q l (Ok i)) all found in
      let key = ap (λ e. g e.0) is ∙ same _ _ (place.1 d) in
      let over = put_over o (λ e. g e.0) (λ e. e.1) (d.0, v) es i d h place.0 (ap (λ e. g e.0) (sym is)) in
      is_put o _ _ q v h (over ∙ ap (λ k. put R k v (shown es)) key)

  -- an entry put in at the key's place
  pub pair_put : {seen es new : List (K × X)} {q : L} {i : ℕ} {k : K} {v : X} → Rises es → seen ≡ es → Place q seen (Err i)
      → g k ≡ q → new ≡ insert es i (k, v) → IsPut R (shown es) (shown new) q v
  pair_put {es = es} {q = q} {i = i} {k = k} {v = v} h all missed e made =
      let place = subst (λ l. Place q l (Err i)) all missed in
      let there = subst (λ z. IsPlace o (λ e. g e.0) (λ (e : K × X). e.1) z es i) (sym e) place.1 in
      let in_place = put_at o (λ e. g e.0) (λ e. e.1) (k, v) es i place.0 there in
      is_put o _ _ q v h (ap shown made ∙ (in_place ∙ ap (λ z. put R z v (shown es)) e))

  pub pair_taken : (es : List (K × X)) (q : L) (i : ℕ) (d : K × X) → Rises es → Place q es (Ok i) → shown (remove es i) ≡ where_key R (λ k. not (eq_by_cmp R q k)) (shown es)
  pair_taken es q i d h place = taken_at o (λ e. g e.0) (λ e. e.1) q es i d h place.0 (place.1 d)

  -- nothing stands at a key that is taken away where it is not
  pub pair_gone : (es : List (K × X)) (q : L) (i : ℕ) → Rises es → Place q es (Err i) → map.from_sorted {R = R} (shown es) ≡ map.remove (map.from_sorted (shown es)) q
  pair_gone es q i h place = absent_stays o same (map.from_sorted (shown es)) q (pair_none es q i h place)

  pub none_is : (es : List (K × X)) → es ≡ [] → map.from_sorted {R = R} (shown es) ≡ map.empty
  none_is es e = ap (λ l. map.from_sorted (shown l)) e ∙ nothing_is R

  pub size_is : (es : List (K × X)) → Rises es → length es ≡ map.len (map.from_sorted {R = R} (shown es))
  size_is es h = sym (length-map es (λ e. (g e.0, e.1))) ∙ listed_size R (shown es) h
