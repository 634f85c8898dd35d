-- The numbers of a commit in the statistics.
use Rattle.std.proofs.Common.{◌≡◌, ◌∙◌, ℕ, suc, ◌+◌, ◌<◌, ◌≤◌, List, [], ◌∷◌, length, drop, get_or, Some, None, refl, sym, ap, arith, drop-cons, add-one}
use Rattle.std.proofs.Common.{map as map_list}
use Rattle.std.proofs.lemmas.List.{get_or-map, drop_all, length-map}
use Rattle.edit_script.specs.Delta.{ChangeData}
use Rattle.edit_script.specs.View.{Lined}
use Rattle.edit_script.specs.Stats.{without_lines, gone_count, written_count}

-- each change has new bytes or is of an output that is held no more
pub counts_whole : (cs : List ChangeData) → written_count cs + gone_count cs ≡ length cs
counts_whole [] = refl
counts_whole ((path, None) ∷ cs) = omega (arith, counts_whole cs)
counts_whole ((path, Some bytes) ∷ cs) = omega (arith, counts_whole cs)

pub bare_length : (cs : List Lined) → length (without_lines cs) ≡ length cs
bare_length [] = refl
bare_length (c ∷ cs) = ap suc (bare_length cs)

gone_apart : (c : ChangeData) (cs : List ChangeData) → gone_count (c ∷ cs) ≡ gone_count (c ∷ []) + gone_count cs
gone_apart (path, None) cs = omega arith
gone_apart (path, Some bytes) cs = omega arith

-- what goes is what goes first and after it
pub gone_left : (left rest : List Lined) (c : Lined) → left ≡ c ∷ rest → gone_count (without_lines left) ≡ gone_count (c.0 ∷ []) + gone_count (without_lines rest)
gone_left left rest c e = ap (λ cs. gone_count (without_lines cs)) e ∙ gone_apart c.0 (without_lines rest)

-- the change of a turn is the first of those left, and at the end none is left
pub first_left : {A B : Type 0} (v : A → B) (xs : List A) (i : ℕ) (x : A) → i < length xs → x ≡ get_or xs i x → drop i (map_list v xs) ≡ v x ∷ drop (i + 1) (map_list v xs)
first_left v xs i x h e =
    let within : i < length (map_list v xs) = omega (arith, h, length-map xs v) in
    let cut : drop i (map_list v xs) ≡ get_or (map_list v xs) i (v x) ∷ drop (i + 1) (map_list v xs) = rw add-one (drop-cons (map_list v xs) i (v x) within) in
    cut ∙ ap (λ y. y ∷ drop (i + 1) (map_list v xs)) (get_or-map v xs i x (v x) h ∙ ap v (sym e))

pub none_left : {A B : Type 0} (v : A → B) (xs : List A) (i : ℕ) → length xs ≤ i → drop i (map_list v xs) ≡ []
none_left v xs i h = drop_all i (map_list v xs) (omega (arith, h, length-map xs v))
