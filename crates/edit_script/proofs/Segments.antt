-- The segments of a path, cut off one after another.
use Rattle.std.proofs.Common.{◌≡◌, ℕ, Bool, true, false, cond, not, ◌&&◌, eqb, List, [], ◌∷◌, ◌++◌, refl, ap, ◌∙◌}
use Rattle.std.specs.List.{list_all, slice_split, onto_first}
use Rattle.edit_script.specs.inner.Cut.{lacks, IsFirstCut}
use Rattle.edit_script.specs.Script.{is_segment}
use Rattle.edit_script.proofs.Cuts.{both}

abbrev pub segments : List ℕ → List (List ℕ)
segments bs = slice_split (λ b. eqb b 47) bs

split_none : (bs : List ℕ) → lacks 47 bs ≡ true → segments bs ≡ bs ∷ []
split_none [] h = refl
split_none (x ∷ bs) h =
    let (apart, rest) = both (not (eqb x 47)) (lacks 47 bs) h in
    elim (eqb x 47) as (λ t. not t ≡ true → cond t ([] ∷ segments bs) (onto_first x (segments bs)) ≡ (x ∷ bs) ∷ []) [
      | true ↦ λ e. absurd (cc)
      | false ↦ λ e. ap (onto_first x) (split_none bs rest)
    ] apart

split_cut : (front back : List ℕ) → lacks 47 front ≡ true → segments (front ++ 47 ∷ back) ≡ front ∷ segments back
split_cut [] back h = refl
split_cut (x ∷ front) back h =
    let (apart, rest) = both (not (eqb x 47)) (lacks 47 front) h in
    elim (eqb x 47) as (λ t. not t ≡ true → cond t ([] ∷ segments (front ++ 47 ∷ back)) (onto_first x (segments (front ++ 47 ∷ back))) ≡ (x ∷ front) ∷ segments back) [
      | true ↦ λ e. absurd (cc)
      | false ↦ λ e. ap (onto_first x) (split_cut front back rest)
    ] apart

last : (b : Bool) → (b && true) ≡ b
last true = refl
last false = refl

-- a text without a slash is one segment
pub one_segment : (bs : List ℕ) → lacks 47 bs ≡ true → list_all is_segment (segments bs) ≡ is_segment bs
one_segment bs h = ap (list_all is_segment) (split_none bs h) ∙ last (is_segment bs)

-- what stands before the first slash is the first segment
pub first_segment : (bs front back : List ℕ) → IsFirstCut 47 bs front back → list_all is_segment (segments bs) ≡ (is_segment front && list_all is_segment (segments back))
first_segment bs front back h = ap (λ l. list_all is_segment (segments l)) h.1 ∙ ap (list_all is_segment) (split_cut front back h.0)
