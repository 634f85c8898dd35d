-- Runs of elements that pass a test.
use Rattle.std.proofs.Common.{◌≡◌, ◌==◌, ◌≤◌, ◌+◌, ◌-◌, ◌<◌, ℕ, Bool, false, true, not, List, take, drop, length, get_or, refl, sym, ◌∙◌, arith, cond, ap}
use Rattle.std.proofs.lemmas.Bool.Decides.{nat_tests}
use Rattle.std.proofs.lemmas.List.Folds.{prefix_len-append}
use Rattle.std.proofs.lemmas.List.Sums.{prefix_len-le-length, prefix_len_passes, prefix_len_stops}
use Rattle.std.proofs.lemmas.List.{length-drop, length-take, get_or-take, get_or-drop}
use Rattle.std.proofs.lemmas.Simd.{chunk-drop, length-chunk}
use Rattle.std.specs.List.{prefix_len, position_or_len, slice_range, slice_index, All, AllPass}

-- a run over a block and what follows it
run_block : (p : ℕ → Bool) (xs : List ℕ) (i n : ℕ) → i + n ≤ length xs → prefix_len p (drop i xs) ≡ cond (prefix_len p (take n (drop i xs)) == n) (n + prefix_len p (drop (i + n) xs)) (prefix_len p (take n (drop i xs)))
run_block p xs i n h =
    ap (prefix_len p) (chunk-drop i n xs)
    ∙ (prefix_len-append p (take n (drop i xs)) (drop (i + n) xs)
    ∙ ap (λ m. cond (prefix_len p (take n (drop i xs)) == m) (m + prefix_len p (drop (i + n) xs)) (prefix_len p (take n (drop i xs)))) (length-chunk i n xs h))

-- a run that passes a whole block goes on after it
pub run_whole : (p : ℕ → Bool) (xs : List ℕ) (i n r : ℕ) → i + n ≤ length xs → r ≡ prefix_len p (take n (drop i xs)) → n ≤ r → prefix_len p (drop i xs) ≡ n + prefix_len p (drop (i + n) xs)
run_whole p xs i n r h e le =
    let short : r ≤ n = omega (arith, prefix_len-le-length p (take n (drop i xs)), length-chunk i n xs h) in
    run_block p xs i n h ∙ rw (sym e) (let f : (r == n) ≡ true = grind (arith, nat_tests) in rw f)

-- a run that ends within a block
pub run_stops : (p : ℕ → Bool) (xs : List ℕ) (i n r : ℕ) → i + n ≤ length xs → r ≡ prefix_len p (take n (drop i xs)) → r < n → prefix_len p (drop i xs) ≡ r
run_stops p xs i n r h e lt =
    run_block p xs i n h ∙ rw (sym e) (let f : (r == n) ≡ false = grind (arith, nat_tests) in rw f)

-- where a run ends: within the list, after elements that pass, before one that does not
pub end_within : (p : ℕ → Bool) (xs : List ℕ) (from end : ℕ) → from ≤ length xs → end ≡ from + prefix_len p (drop from xs) → end ≤ length xs
end_within p xs from end room e = omega (arith, prefix_len-le-length p (drop from xs), length-drop from xs)

pub end_passed : (p : ℕ → Bool) (xs : List ℕ) (from end : ℕ) → end ≡ from + prefix_len p (drop from xs) → AllPass p (slice_range xs from end)
end_passed p xs from end e k d lt =
    let long : end - from ≡ prefix_len p (drop from xs) = omega arith in
    let near : k < end - from = omega (arith, lt, length-take (end - from) (drop from xs)) in
    let here : get_or (slice_range xs from end) k d ≡ get_or (drop from xs) k d = get_or-take (end - from) (drop from xs) k d near in
    ap p here ∙ prefix_len_passes p (drop from xs) k d (omega arith)

pub end_stopped : (p : ℕ → Bool) (xs : List ℕ) (from end : ℕ) → from ≤ length xs → end ≡ from + prefix_len p (drop from xs) → end < length xs → p (slice_index xs end) ≡ false
end_stopped p xs from end room e lt =
    let place : get_or (drop from xs) (prefix_len p (drop from xs)) 0 ≡ get_or xs end 0 = get_or-drop from xs (prefix_len p (drop from xs)) 0 ∙ ap (λ i. get_or xs i 0) (sym e) in
    ap p (sym place) ∙ prefix_len_stops p (drop from xs) 0 (omega (arith, length-drop from xs))

-- the same for the first element that passes
turned : (b : Bool) → not b ≡ true → b ≡ false
turned true h = cc
turned false h = refl

turned_back : (b : Bool) → not b ≡ false → b ≡ true
turned_back true h = refl
turned_back false h = cc

pub first_passed : (p : ℕ → Bool) (xs : List ℕ) (from end : ℕ) → end ≡ from + position_or_len p (drop from xs) → All (λ x. p x ≡ false) (slice_range xs from end)
first_passed p xs from end e k d lt = turned _ (end_passed (λ x. not (p x)) xs from end e k d lt)

pub first_stopped : (p : ℕ → Bool) (xs : List ℕ) (from end : ℕ) → from ≤ length xs → end ≡ from + position_or_len p (drop from xs) → end < length xs → p (slice_index xs end) ≡ true
first_stopped p xs from end room e lt = turned_back _ (end_stopped (λ x. not (p x)) xs from end room e lt)
