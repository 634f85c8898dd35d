-- Numbers of permutations and of their sources, told up to a last number.
use Rattle.std.proofs.Common.{mul_assoc, ◌≡◌, ◌+◌, ◌*◌, ◌<◌, ◌≤◌, ℕ, zero, suc, true, min, List, [], ◌∷◌, ◌++◌, append-nil, length, length-append, map, refl, sym, ap, ap₂, ◌∙◌, subst, inl, inr, arith}
use Rattle.std.proofs.lemmas.Bool.{cases_lt}
use Rattle.std.proofs.lemmas.List.{length-map, map-append}
use Rattle.std.proofs.lemmas.List.Sums.{sum_by-cons}
use Rattle.std.proofs.Math.Nat.{mul-suc}
use Rattle.std.specs.List.{flat_map}
use Rattle.std.specs.Prelude.{max, ◌⊎◌}
use Rattle.resolver_doc.specs.Document.{SetData, ItemData, set_item, modifier_item, ResolverData, has_choice, have_choices}
use Rattle.permutations.specs.Permutation.{Pick, picks, choices, sources_from, greatest, permutation, most_sources}
use Rattle.permutations.specs.inner.Counting.{source_count, item_most, order_most}
use Rattle.permutations.proofs.SetNeeds.{first_true, second_true}

-- a product that is told step by step
pub told_product : (a k r m : ℕ) → min (min (a * k) m * r) m ≡ min (a * (k * r)) m
told_product a k r m = at (cases_lt m (a * k)) r
  where
    at : ((m < a * k) ⊎ (a * k ≤ m)) → (s : ℕ) → min (min (a * k) m * s) m ≡ min (a * (k * s)) m
    at (inr small) s = (let e : min (a * k) m ≡ a * k = omega arith in ap (λ (x : ℕ). min (x * s) m) e ∙ ap (λ (x : ℕ). min x m) (mul_assoc a k s))
    at (inl large) zero = (let e : min (a * k) m * 0 ≡ a * (k * 0) = omega arith in ap (λ (x : ℕ). min x m) e)
    at (inl large) (suc s) =
        let e : min (a * k) m ≡ m = omega arith in
        ap (λ (x : ℕ). min (x * suc s) m) e ∙ (above m s m (omega arith) ∙ sym (ap (λ (x : ℕ). min x m) (sym (mul_assoc a k (suc s))) ∙ above (a * k) s m (omega arith)))
      where
        above : (x s m : ℕ) → m ≤ x → min (x * suc s) m ≡ m
        above x s m h = (let e : x * suc s ≡ x * s + x = mul-suc x s in omega arith)

-- how many ways there are
ways : (ps : List Pick) (cs : List (List Pick)) → length (flat_map (λ p. map (λ rest. p ∷ rest) cs) ps) ≡ length ps * length cs
ways [] cs = omega arith
ways (p ∷ ps) cs =
    length-append (map (λ rest. p ∷ rest) cs) (flat_map (λ q. map (λ rest. q ∷ rest) cs) ps)
    ∙ (ap₂ (λ (a b : ℕ). a + b) (length-map cs (λ rest. p ∷ rest)) (ways ps cs) ∙ one_more (length ps) (length cs))
  where
    one_more : (n m : ℕ) → m + n * m ≡ suc n * m
    one_more n m = omega arith

pub length-choices : (item : ItemData) (items : List ItemData) → length (choices (item ∷ items)) ≡ length (picks item) * length (choices items)
length-choices item items = ways (picks item) (choices items)

-- the greatest of numbers
pub greatest-append : (xs ys : List ℕ) → greatest (xs ++ ys) ≡ max (greatest xs) (greatest ys)
greatest-append [] ys = omega arith
greatest-append (x ∷ xs) ys = (let rest : greatest (xs ++ ys) ≡ max (greatest xs) (greatest ys) = greatest-append xs ys in omega arith)

greatest-add : (a n : ℕ) (ns : List ℕ) → greatest (map (λ m. a + m) (n ∷ ns)) ≡ a + greatest (n ∷ ns)
greatest-add a n [] = omega arith
greatest-add a n (m ∷ ms) = (let rest : greatest (map (λ k. a + k) (m ∷ ms)) ≡ a + greatest (m ∷ ms) = greatest-add a m ms in omega arith)

greatest-sums : (p : ℕ) (ps : List ℕ) (n : ℕ) (ns : List ℕ) → greatest (flat_map (λ a. map (λ m. a + m) (n ∷ ns)) (p ∷ ps)) ≡ greatest (p ∷ ps) + greatest (n ∷ ns)
greatest-sums p [] n ns =
    let e : greatest (map (λ m. p + m) (n ∷ ns) ++ []) ≡ p + greatest (n ∷ ns) = ap greatest (append-nil (map (λ m. p + m) (n ∷ ns))) ∙ greatest-add p n ns in
    omega arith
greatest-sums p (q ∷ qs) n ns =
    let e : greatest (flat_map (λ a. map (λ m. a + m) (n ∷ ns)) (p ∷ q ∷ qs)) ≡ max (greatest (map (λ m. p + m) (n ∷ ns))) (greatest (flat_map (λ a. map (λ m. a + m) (n ∷ ns)) (q ∷ qs))) =
    greatest-append (map (λ m. p + m) (n ∷ ns)) (flat_map (λ a. map (λ m. a + m) (n ∷ ns)) (q ∷ qs)) in
    let first : greatest (map (λ m. p + m) (n ∷ ns)) ≡ p + greatest (n ∷ ns) = greatest-add p n ns in
    let rest : greatest (flat_map (λ a. map (λ m. a + m) (n ∷ ns)) (q ∷ qs)) ≡ greatest (q ∷ qs) + greatest (n ∷ ns) = greatest-sums q qs n ns in
    omega arith

-- both lists have numbers
greatest-both : (ps ns : List ℕ) → 0 < length ps → 0 < length ns → greatest (flat_map (λ a. map (λ m. a + m) ns) ps) ≡ greatest ps + greatest ns
greatest-both [] ns hp hn = absurd (omega arith)
greatest-both (p ∷ ps) [] hp hn = absurd (omega arith)
greatest-both (p ∷ ps) (n ∷ ns) hp hn = greatest-sums p ps n ns

module _ (sets : List SetData) where
  abbrev count : List Pick → ℕ
  count ps = length (flat_map (λ p. sources_from sets p.sources) ps)

  count_more : (p : Pick) (cs : List (List Pick)) → map count (map (λ rest. p ∷ rest) cs) ≡ map (λ m. source_count sets p.sources + m) (map count cs)
  count_more p [] = refl
  count_more p (c ∷ cs) =
      ap₂ (λ (n : ℕ) (ns : List ℕ). n ∷ ns) (length-append (sources_from sets p.sources) (flat_map (λ q. sources_from sets q.sources) c)) (count_more p cs)

  counts : (ps : List Pick) (cs : List (List Pick)) → map count (flat_map (λ p. map (λ rest. p ∷ rest) cs) ps) ≡ flat_map (λ a. map (λ m. a + m) (map count cs)) (map (λ p. source_count sets p.sources) ps)
  counts [] cs = refl
  counts (p ∷ ps) cs =
      map-append count (map (λ rest. p ∷ rest) cs) (flat_map (λ q. map (λ rest. q ∷ rest) cs) ps)
      ∙ ap₂ (λ (xs ys : List ℕ). xs ++ ys) (count_more p cs) (counts ps cs)

some_picks : (item : ItemData) → has_choice item ≡ true → 0 < length (picks item)
some_picks (set_item sources) h = omega arith
some_picks (modifier_item name [] default) h = cc
some_picks (modifier_item name (c ∷ cs) default) h = omega arith

some_choices : (order : List ItemData) → have_choices order ≡ true → 0 < length (choices order)
some_choices [] h = omega arith
some_choices (item ∷ items) h =
    let here : 0 < length (picks item) = some_picks item (first_true (has_choice item) (have_choices items) h) in
    let there : 0 < length (choices items) = some_choices items (second_true (has_choice item) (have_choices items) h) in
    subst (λ (n : ℕ). 0 < n) (sym (length-choices item items)) (both (length (picks item)) (length (choices items)) here there)
  where
    both : (n m : ℕ) → 0 < n → 0 < m → 0 < n * m
    both (suc n) (suc m) h k = omega arith
    both zero m h k = absurd (omega arith)
    both (suc n) zero h k = absurd (omega arith)

most_counted : (sets : List SetData) (order : List ItemData) → have_choices order ≡ true → greatest (map (λ ps. length (flat_map (λ p. sources_from sets p.sources) ps)) (choices order)) ≡ order_most sets order
most_counted sets [] h = refl
most_counted sets (item ∷ items) h =
    let here : 0 < length (picks item) = some_picks item (first_true (has_choice item) (have_choices items) h) in
    let there : 0 < length (choices items) = some_choices items (second_true (has_choice item) (have_choices items) h) in
    let numbers = map (λ p. source_count sets p.sources) (picks item) in
    let rest = map (λ ps. length (flat_map (λ p. sources_from sets p.sources) ps)) (choices items) in
    ap greatest (counts sets (picks item) (choices items))
    ∙ (greatest-both numbers rest (subst (λ (n : ℕ). 0 < n) (sym (length-map (picks item) (λ p. source_count sets p.sources))) here)
    (subst (λ (n : ℕ). 0 < n) (sym (length-map (choices items) (λ ps. length (flat_map (λ p. sources_from sets p.sources) ps)))) there)
    ∙ (ap (λ (n : ℕ). item_most sets item + n) (most_counted sets items (second_true (has_choice item) (have_choices items) h))
    ∙ sym (sum_by-cons (item_most sets) item items)))

map-map : (sets : List SetData) (cs : List (List Pick)) → map (λ p. length p.sources) (map (permutation sets) cs) ≡ map (λ ps. length (flat_map (λ p. sources_from sets p.sources) ps)) cs
map-map sets [] = refl
map-map sets (c ∷ cs) = ap (λ (ns : List ℕ). length (flat_map (λ p. sources_from sets p.sources) c) ∷ ns) (map-map sets cs)

-- the greatest number of sources of a permutation, item by item
pub most_by_items : (plan : ResolverData) → have_choices plan.order ≡ true → most_sources plan ≡ order_most plan.sets plan.order
most_by_items plan h = ap greatest (map-map plan.sets (choices plan.order)) ∙ most_counted plan.sets plan.order h
