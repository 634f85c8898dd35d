-- The item under a step is the one whose index the step spells.
use Rattle.std.proofs.Common.{◌≡◌, ◌≢◌, ℕ, zero, suc, ◌+◌, ◌<◌, ◌≤◌, ◌^◌, List, [], ◌∷◌, Bool, true, false, cond, Some, None, refl, sym, ap, ◌∙◌, length, arith}
use Rattle.std.specs.Prelude.{slice_get}
use Rattle.std.specs.Fmt.{decimal}
use Rattle.std.specs.Str.{bytes_eq}
use Rattle.std.proofs.lemmas.Fmt.{decimal_injective}
use Rattle.json_span.specs.Tree.{Placed}
use Rattle.token_tree.proofs.Names.{same_text, text_same}
use Rattle.alias_ref.specs.Written.{Step, parts_by_index, part_under}

fails : (b : Bool) → (b ≡ true → ⊥) → b ≡ false
fails true h = absurd (h refl)
fails false h = refl

pub no_item : (s : Step) (i : ℕ) (ns : List Placed) → i + length ns ≤ 2 ^ 64 → ((k : ℕ) → k < 2 ^ 64 → s ≢ decimal k) → part_under s (parts_by_index i ns) ≡ None
no_item s i [] room h = refl
no_item s i (n ∷ ns) room h =
    let other : bytes_eq (decimal i) s ≡ false = fails (bytes_eq (decimal i) s) (λ e. h i (omega (arith, room)) (sym (same_text (decimal i) s e))) in
    ap (λ b. cond b (Some n) (part_under s (parts_by_index (i + 1) ns))) other ∙ no_item s (i + 1) ns (omega (arith, room)) h

-- from an index on that is not above the one that is spelled
pub item_at : (k i : ℕ) (ns : List Placed) → (i + k) < 2 ^ 64 → i + length ns ≤ 2 ^ 64 → part_under (decimal (i + k)) (parts_by_index i ns) ≡ slice_get ns k
item_at k i [] room all = refl
item_at zero i (n ∷ ns) room all =
    let same : i + zero ≡ i = omega arith in
    ap (λ b. cond b (Some n) (part_under (decimal (i + zero)) (parts_by_index (i + 1) ns))) (text_same (decimal i) (decimal (i + zero)) (ap decimal (sym same)))
item_at (suc k) i (n ∷ ns) room all =
    let next : i + suc k ≡ (i + 1) + k = omega arith in
    let other : bytes_eq (decimal i) (decimal (i + suc k)) ≡ false = fails (bytes_eq (decimal i) (decimal (i + suc k))) (λ e. let same = decimal_injective i (i + suc k) (omega (arith, room)) room (same_text (decimal i) (decimal (i + suc k)) e) in omega (arith, same)) in
    ap (λ b. cond b (Some n) (part_under (decimal (i + suc k)) (parts_by_index (i + 1) ns))) other
    ∙ ap (λ j. part_under (decimal j) (parts_by_index (i + 1) ns)) next
    ∙ item_at k (i + 1) ns (omega (arith, room)) (omega (arith, all))

zero_plus : (i : ℕ) → i ≡ 0 + i
zero_plus i = omega arith

pub item_is : (s : Step) (i : ℕ) (ns : List Placed) → s ≡ decimal i → i < 2 ^ 64 → length ns < 2 ^ 64 → part_under s (parts_by_index 0 ns) ≡ slice_get ns i
item_is s i ns e room all = ap (λ t. part_under t (parts_by_index 0 ns)) e ∙ ap (λ k. part_under (decimal k) (parts_by_index 0 ns)) (zero_plus i) ∙ item_at i 0 ns (omega (arith, room)) (omega (arith, all))
