-- The bits of a block: one bit for each byte that passes a test, the first byte lowest.
use Rattle.std.proofs.Common.{◌≡◌, ◌≢◌, ◌+◌, ◌*◌, ◌^◌, ◌≤◌, ◌==◌, ◌||◌, ◌∙◌, ℕ, Bool, true, false, not, List, [], ◌∷◌, length, take, drop, map, cond, refl, sym, arith, ap}
use Rattle.std.specs.Prelude.{bit_or, bit_and, count_by, All}
use Rattle.std.specs.List.{prefix_len, position_or_len}
use Rattle.std.proofs.lemmas.Nat.{or_block, and_block}
use Rattle.std.proofs.lemmas.Simd.{first_set_mask_l, length-chunk, chunk-drop, get_or-chunk, none_from_empty_mask}
use Rattle.std.proofs.lemmas.Bool.Decides.{nat_tests}
use Rattle.std.proofs.lemmas.List.Elements.{All-append, All-same, All-from_get_or}
use Rattle.std.proofs.lemmas.List.Sums.{sum_by-append, sum_by-take-drop}
use Rattle.std.proofs.Math.Seq.{take-add}
use Rattle.lane_scan.specs.Bytes.{is_newline}
use lib.Count.{count_trailing_zeros}
use lib.Lanes.{mask_l}

or_step : (b c : Bool) (m n k : ℕ) → bit_or m n ≡ k → bit_or (cond b 1 0 + 2 * m) (cond c 1 0 + 2 * n) ≡ cond (b || c) 1 0 + 2 * k
or_step true true m n k h =
    let left : 1 + 2 * m ≡ m * 2 ^ 1 + 1 = omega arith in
    let right : 1 + 2 * n ≡ n * 2 ^ 1 + 1 = omega arith in
    rw (left, right) (or_block 1 m n 1 1 (omega arith) (omega arith) ∙ omega (arith, h))
or_step true false m n k h =
    let left : 1 + 2 * m ≡ m * 2 ^ 1 + 1 = omega arith in
    let right : 0 + 2 * n ≡ n * 2 ^ 1 + 0 = omega arith in
    rw (left, right) (or_block 1 m n 1 0 (omega arith) (omega arith) ∙ omega (arith, h))
or_step false true m n k h =
    let left : 0 + 2 * m ≡ m * 2 ^ 1 + 0 = omega arith in
    let right : 1 + 2 * n ≡ n * 2 ^ 1 + 1 = omega arith in
    rw (left, right) (or_block 1 m n 0 1 (omega arith) (omega arith) ∙ omega (arith, h))
or_step false false m n k h =
    let left : 0 + 2 * m ≡ m * 2 ^ 1 + 0 = omega arith in
    let right : 0 + 2 * n ≡ n * 2 ^ 1 + 0 = omega arith in
    rw (left, right) (or_block 1 m n 0 0 (omega arith) (omega arith) ∙ omega (arith, h))

-- the marks of one test or the other
pub bit_or-mask_l : (p q : ℕ → Bool) (xs : List ℕ) → bit_or (mask_l (map p xs)) (mask_l (map q xs)) ≡ mask_l (map (λ x. p x || q x) xs)
bit_or-mask_l p q [] = refl
bit_or-mask_l p q (x ∷ xs) = or_step (p x) (q x) _ _ _ (bit_or-mask_l p q xs)

and_step : (b c : Bool) (m n k : ℕ) → bit_and m n ≡ k → bit_and (cond (not b) 1 0 + 2 * m) (cond (not c) 1 0 + 2 * n) ≡ cond (not (b || c)) 1 0 + 2 * k
and_step true true m n k h =
    let left : 0 + 2 * m ≡ m * 2 ^ 1 + 0 = omega arith in
    let right : 0 + 2 * n ≡ n * 2 ^ 1 + 0 = omega arith in
    rw (left, right) (and_block 1 m n 0 0 (omega arith) (omega arith) ∙ omega (arith, h))
and_step true false m n k h =
    let left : 0 + 2 * m ≡ m * 2 ^ 1 + 0 = omega arith in
    let right : 1 + 2 * n ≡ n * 2 ^ 1 + 1 = omega arith in
    rw (left, right) (and_block 1 m n 0 1 (omega arith) (omega arith) ∙ omega (arith, h))
and_step false true m n k h =
    let left : 1 + 2 * m ≡ m * 2 ^ 1 + 1 = omega arith in
    let right : 0 + 2 * n ≡ n * 2 ^ 1 + 0 = omega arith in
    rw (left, right) (and_block 1 m n 1 0 (omega arith) (omega arith) ∙ omega (arith, h))
and_step false false m n k h =
    let left : 1 + 2 * m ≡ m * 2 ^ 1 + 1 = omega arith in
    let right : 1 + 2 * n ≡ n * 2 ^ 1 + 1 = omega arith in
    rw (left, right) (and_block 1 m n 1 1 (omega arith) (omega arith) ∙ omega (arith, h))

-- the marks of neither test
pub bit_and-mask_l : (p q : ℕ → Bool) (xs : List ℕ) → bit_and (mask_l (map (λ x. not (p x)) xs)) (mask_l (map (λ x. not (q x)) xs)) ≡ mask_l (map (λ x. not (p x || q x)) xs)
bit_and-mask_l p q [] = refl
bit_and-mask_l p q (x ∷ xs) = and_step (p x) (q x) _ _ _ (bit_and-mask_l p q xs)

-- the first mark of a block is its first byte that passes
pub first_mark : (p : ℕ → Bool) (xs : List ℕ) (i bits : ℕ) → i + 32 ≤ length xs → bits ≡ mask_l (map p (take 32 (drop i xs))) → cond (bits == 0) 32 (count_trailing_zeros 64 bits) ≡ position_or_len p (take 32 (drop i xs))
first_mark p xs i bits room e = rw e (first_set_mask_l p (take 32 (drop i xs)) 32 (length-chunk i 32 xs room) (omega arith))

-- passing a test that is turned twice is passing it
turned_twice : (b : Bool) (m : ℕ) → cond (not (not b)) (1 + m) 0 ≡ cond b (1 + m) 0
turned_twice true m = refl
turned_twice false m = refl

pub position_or_len-not : (p : ℕ → Bool) (xs : List ℕ) → position_or_len (λ x. not (p x)) xs ≡ prefix_len p xs
position_or_len-not p [] = refl
position_or_len-not p (x ∷ xs) = turned_twice (p x) _ ∙ ap (λ m. cond (p x) (1 + m) 0) (position_or_len-not p xs)

-- the count over a list is that before a place and that from it on
pub count_by-split : (p : ℕ → Bool) (xs : List ℕ) (i : ℕ) → count_by p (take i xs) + count_by p (drop i xs) ≡ count_by p xs
count_by-split p xs i = sum_by-take-drop (λ x. cond (p x) 1 0) xs i

-- a block more is counted
pub count_by-block : (p : ℕ → Bool) (xs : List ℕ) (i n : ℕ) → count_by p (take (i + n) xs) ≡ count_by p (take i xs) + count_by p (take n (drop i xs))
count_by-block p xs i n = ap (count_by p) (take-add i n xs) ∙ sum_by-append _ (take i xs) (take n (drop i xs))

differs : (x y : ℕ) → (x == y) ≡ false → x ≢ y
differs x y h = grind (arith, nat_tests)

-- a block without a mark has no newline, so that none comes from its start on
pub none_from_block : (xs : List ℕ) (i bits : ℕ) → i + 32 ≤ length xs → bits ≡ mask_l (map is_newline (take 32 (drop i xs))) → bits ≡ 0 → All (λ x. x ≢ 10) (drop (i + 32) xs) → All (λ x. x ≢ 10) (drop i xs)
none_from_block xs i bits room e zero after =
    let here : All (λ x. x ≢ 10) (take 32 (drop i xs)) = All-from_get_or (λ x. x ≢ 10) (take 32 (drop i xs)) 0 (λ k lt. differs _ _
    (ap is_newline (get_or-chunk i 32 xs k 0 (omega (arith, lt, length-chunk i 32 xs room)))
    ∙ none_from_empty_mask is_newline xs i 32 0 room (sym e ∙ zero) (i + k) (omega arith) (omega (arith, lt, length-chunk i 32 xs room)))) in
    All-same (λ x. x ≢ 10) _ _ (chunk-drop i 32 xs) (All-append (λ x. x ≢ 10) (take 32 (drop i xs)) (drop (i + 32) xs) here after)
