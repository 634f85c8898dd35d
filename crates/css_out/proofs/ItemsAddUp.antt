-- Items with commas between, one after another.
use Rattle.std.proofs.Common.{◌≡◌, ℕ, suc, ◌+◌, ◌<◌, List, [], ◌∷◌, length, get_or, drop, sym, ◌∙◌, ap, arith, add-one}
use Rattle.std.proofs.Math.Seq.{drop-cons}
use Rattle.css_out.specs.Piece.{mark, comma}
use Rattle.css_out.specs.Parts.{Part, shown}
use Rattle.css_out.specs.Fragment.{behind_commas, listed_parts}
use Rattle.css_out.specs.inner.Added.{with_piece, with_pieces}
use Rattle.css_out.specs.declared.line.Line.{Line}
use Rattle.css_out.proofs.PiecesAddUp.{added_parts}

-- one more item after a comma
pub goes_on : {A : Type 0} (f : ℕ → A → List Part) (xs : List A) (i : ℕ) (x : A) (l : Line) → i < length xs → x ≡ get_or xs i x
    → with_pieces (with_pieces (with_piece l (mark comma)) (shown (f i x))) (shown (behind_commas f (i + 1) (drop (i + 1) xs))) ≡ with_pieces l (shown (behind_commas f i (drop i xs)))
goes_on f xs i x l h e =
    let rest = behind_commas f (i + 1) (drop (i + 1) xs) in
    let cut : drop i xs ≡ x ∷ drop (i + 1) xs = rw (drop-cons xs i x h, add-one) (ap (λ y. y ∷ drop (suc i) xs) (sym e)) in
    sym (ap (λ ys. with_pieces l (shown (behind_commas f i ys))) cut ∙ added_parts (with_piece l (mark comma)) (f i x) rest)

-- the first item and those after it
pub first_then : {A : Type 0} (f : ℕ → A → List Part) (xs : List A) (x : A) (l : Line) → 0 < length xs → x ≡ get_or xs 0 x
    → with_pieces (with_pieces l (shown (f 0 x))) (shown (behind_commas f 1 (drop 1 xs))) ≡ with_pieces l (shown (listed_parts f xs))
first_then f [] x l h e = absurd (omega arith)
first_then f (y ∷ xs) x l h e = ap (λ z. with_pieces (with_pieces l (shown (f 0 z))) (shown (behind_commas f 1 xs))) e ∙ sym (added_parts l (f 0 y) (behind_commas f 1 xs))
