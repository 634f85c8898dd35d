-- Names that are pushed one after another from a run of texts.
use Rattle.std.proofs.Common.{◌≡◌, ℕ, zero, suc, ◌+◌, ◌-◌, ◌<◌, ◌≤◌, List, [], ◌∷◌, ◌++◌, take, drop, Some, None, arith, refl, sym, ap, ap₂, ◌∙◌}
use Rattle.std.proofs.lemmas.List.{append-nil, append_assoc}
use Rattle.std.specs.List.{slice_get, slice_range}

-- the text at a place, and those behind it
from_text : (texts : List (List ℕ)) (i : ℕ) (text : List ℕ) → slice_get texts i ≡ Some text → drop i texts ≡ text ∷ drop (suc i) texts
from_text [] i text e = cc
from_text (t ∷ ts) zero text e = let is : t ≡ text = cc in ap (λ x. x ∷ ts) is
from_text (t ∷ ts) (suc i) text e = from_text ts i text e

past_texts : (texts : List (List ℕ)) (i : ℕ) → slice_get texts i ≡ None → drop i texts ≡ []
past_texts [] zero e = refl
past_texts [] (suc i) e = refl
past_texts (t ∷ ts) zero e = cc
past_texts (t ∷ ts) (suc i) e = past_texts ts i e

-- what is left of a run at one of its places
run_more : (texts : List (List ℕ)) (i end : ℕ) (text : List ℕ) → i < end → slice_get texts i ≡ Some text
    → slice_range texts i end ≡ text ∷ slice_range texts (i + 1) end
run_more texts i end text within e =
    let n : end - i ≡ suc (end - (i + 1)) = omega (arith, within) in
    let next : suc i ≡ i + 1 = omega arith in
    ap₂ (λ k ts. take k ts) n (from_text texts i text e ∙ ap (λ k. text ∷ drop k texts) next)

run_past : (texts : List (List ℕ)) (i end : ℕ) → slice_get texts i ≡ None → slice_range texts i end ≡ []
run_past texts i end e = ap (take (end - i)) (past_texts texts i e) ∙ none (end - i)
  where
    none : (n : ℕ) → take {A = List ℕ} n [] ≡ []
    none zero = refl
    none (suc n) = refl

-- .. also where it is added to others
pub one_pushed : (names texts all : List (List ℕ)) (i end : ℕ) (text : List ℕ) → i < end → slice_get texts i ≡ Some text
    → names ++ slice_range texts i end ≡ all → (names ++ text ∷ []) ++ slice_range texts (i + 1) end ≡ all
one_pushed names texts all i end text within e so_far =
    append_assoc names (text ∷ []) (slice_range texts (i + 1) end) ∙ (ap (λ rest. names ++ rest) (sym (run_more texts i end text within e)) ∙ so_far)

pub none_pushed : (names texts all : List (List ℕ)) (i end : ℕ) → slice_get texts i ≡ None → names ++ slice_range texts i end ≡ all → names ≡ all
none_pushed names texts all i end e so_far = sym (append-nil names) ∙ (ap (λ rest. names ++ rest) (sym (run_past texts i end e)) ∙ so_far)

-- none of the run is left
pub all_pushed : (names texts all : List (List ℕ)) (i end : ℕ) → end ≤ i → names ++ slice_range texts i end ≡ all → names ≡ all
all_pushed names texts all i end past so_far =
    let none : end - i ≡ 0 = omega (arith, past) in
    sym (append-nil names) ∙ (ap (λ n. names ++ take n (drop i texts)) (sym none) ∙ so_far)
