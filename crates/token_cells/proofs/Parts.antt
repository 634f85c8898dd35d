-- Parts of lists, which stay what they are where a greater part is copied elsewhere.
use Rattle.std.proofs.Common.{◌≡◌, ℕ, zero, suc, ◌+◌, ◌-◌, ◌<◌, ◌≤◌, List, [], ◌∷◌, ◌++◌, Some, length, take, drop, min, arith, refl, sym, ap, ap₂, ◌∙◌}
use Rattle.std.proofs.lemmas.List.{drop-drop, drop-take, length-take, length-drop, take-take}
use Rattle.std.specs.List.{slice_get, slice_range}
use Rattle.token_cells.specs.inner.Blocks.{LiesIn, moved}

-- the first n and the next m
both_taken : {A : Type 0} → (n m : ℕ) (xs : List A) → take (n + m) xs ≡ take n xs ++ take m (drop n xs)
both_taken zero m xs = ap (λ k. take k xs) (none m)
  where
    none : (k : ℕ) → 0 + k ≡ k
    none k = omega arith
both_taken (suc n) m [] = nothing (suc n + m) ∙ sym (nothing m)
  where
    nothing : {A : Type 0} → (k : ℕ) → take {A = A} k [] ≡ []
    nothing zero = refl
    nothing (suc k) = refl
both_taken (suc n) m (x ∷ xs) =
    let is : suc n + m ≡ suc (n + m) = omega arith in
    ap (λ k. take k (x ∷ xs)) is ∙ ap (λ rest. x ∷ rest) (both_taken n m xs)

-- two parts of which one stands behind the other
pub two_parts : {A : Type 0} → (xs : List A) (start middle end : ℕ) → start ≤ middle → middle ≤ end
    → slice_range xs start end ≡ slice_range xs start middle ++ slice_range xs middle end
two_parts xs start middle end first second =
    let long : end - start ≡ (middle - start) + (end - middle) = omega (arith, first, second) in
    let there : start + (middle - start) ≡ middle = omega (arith, first) in
    ap (λ k. take k (drop start xs)) long
    ∙ (both_taken (middle - start) (end - middle) (drop start xs)
    ∙ ap (λ ys. take (middle - start) (drop start xs) ++ take (end - middle) ys) (drop-drop (middle - start) start xs ∙ ap (λ k. drop k xs) there))

-- a part of the first n
inner_part : {A : Type 0} → (xs : List A) (n start end : ℕ) → start ≤ end → end ≤ n → take (end - start) (drop start (take n xs)) ≡ take (end - start) (drop start xs)
inner_part xs n start end order within =
    let is : n ≡ start + (n - start) = omega (arith, order, within) in
    let less : end - start ≤ n - start = omega (arith, order, within) in
    ap (λ k. take (end - start) (drop start (take k xs))) is
    ∙ (ap (take (end - start)) (drop-take start (n - start) xs) ∙ take-take (end - start) (n - start) (drop start xs) less)

-- a copy is as long as what was copied
pub as_long : {A : Type 0} → (xs ys : List A) (start end to to_end : ℕ) → end ≤ length xs → slice_range ys to to_end ≡ slice_range xs start end → end - start ≤ to_end - to
as_long xs ys start end to to_end fits same =
    omega (arith, ap length same, length-take (to_end - to) (drop to ys), length-take (end - start) (drop start xs), length-drop start xs, fits)

-- what lies in a part lies in its copy
pub part_moved : {A : Type 0} → (xs ys : List A) (start end to to_end first last : ℕ) → LiesIn start end first last → end ≤ length xs
    → slice_range ys to to_end ≡ slice_range xs start end → slice_range ys (moved first start to) (moved last start to) ≡ slice_range xs first last
part_moved xs ys start end to to_end first last lies fits same =
    let p = first - start in
    let q = last - start in
    let order : p ≤ q = omega (arith, lies.start_is, lies.order) in
    let within : q ≤ end - start = omega (arith, lies.end_is) in
    let room : end - start ≤ to_end - to = as_long xs ys start end to to_end fits same in
    let many : (to + q) - (to + p) ≡ q - p = omega arith in
    let also : q - p ≡ last - first = omega (arith, lies.start_is, lies.order) in
    let at : start + p ≡ first = omega (arith, lies.start_is) in
    ap₂ (λ k zs. take k zs) many (sym (drop-drop p to ys))
    ∙ (sym (inner_part (drop to ys) (to_end - to) p q order (omega (arith, within, room)))
    ∙ (ap (λ zs. take (q - p) (drop p zs)) same
    ∙ (inner_part (drop start xs) (end - start) p q order within
    ∙ ap₂ (λ k zs. take k zs) also (drop-drop p start xs ∙ ap (λ k. drop k xs) at))))

-- the part that is one item
pub one_item : {A : Type 0} → (xs : List A) (i : ℕ) (x : A) → slice_get xs i ≡ Some x → slice_range xs i (i + 1) ≡ x ∷ []
one_item {A} xs i x is =
    let one : (i + 1) - i ≡ 1 = omega arith in
    ap (λ k. take k (drop i xs)) one ∙ head xs i is
  where
    head : (ys : List A) (k : ℕ) → slice_get ys k ≡ Some x → take 1 (drop k ys) ≡ x ∷ []
    head [] k e = absurd (cc)
    head (y ∷ ys) zero e = let same : y ≡ x = cc in ap (λ z. z ∷ []) same
    head (y ∷ ys) (suc k) e = head ys k e

-- .. behind others
pub item_more : {A : Type 0} → (xs : List A) (start i : ℕ) (x : A) → start ≤ i → slice_get xs i ≡ Some x
    → slice_range xs start (i + 1) ≡ slice_range xs start i ++ x ∷ []
item_more xs start i x behind is = two_parts xs start i (i + 1) behind (omega arith) ∙ ap (λ ys. slice_range xs start i ++ ys) (one_item xs i x is)

-- an item of a part
pub in_part : {A : Type 0} → (xs : List A) (start end k : ℕ) (x : A) → slice_get (slice_range xs start end) k ≡ Some x → slice_get xs (start + k) ≡ Some x
in_part {A} xs start end k x is = dropped start xs (taken (end - start) (drop start xs) k is)
  where
    taken : (n : ℕ) (ys : List A) (j : ℕ) → slice_get (take n ys) j ≡ Some x → slice_get ys j ≡ Some x
    taken zero ys j e = absurd (cc)
    taken (suc n) [] j e = absurd (cc)
    taken (suc n) (y ∷ ys) zero e = e
    taken (suc n) (y ∷ ys) (suc j) e = taken n ys j e

    dropped : (n : ℕ) (ys : List A) → slice_get (drop n ys) k ≡ Some x → slice_get ys (n + k) ≡ Some x
    dropped zero ys e = let none : k ≡ 0 + k = omega arith in ap (slice_get ys) (sym none) ∙ e
    dropped (suc n) [] e = absurd (cc)
    dropped (suc n) (y ∷ ys) e = let next : suc n + k ≡ suc (n + k) = omega arith in ap (slice_get (y ∷ ys)) next ∙ dropped n ys e

-- the first items and a part behind them
pub front_and_part : {A : Type 0} → (xs : List A) (i end : ℕ) → i ≤ end → take end xs ≡ take i xs ++ slice_range xs i end
front_and_part xs i end behind =
    let is : end ≡ i + (end - i) = omega (arith, behind) in
    ap (λ k. take k xs) is ∙ both_taken i (end - i) xs
