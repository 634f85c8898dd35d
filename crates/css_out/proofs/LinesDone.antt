-- Whole lines, and texts of several lines.
use Rattle.std.proofs.Common.{◌≡◌, ℕ, List, [], ◌∷◌, ◌++◌, refl, sym, ◌∙◌, ap, append_assoc, append-nil, codes}
use Rattle.css_out.specs.Piece.{Piece}
use Rattle.css_out.specs.Parts.{Part, shown_part, shown}
use Rattle.css_out.specs.Reading.{Declared}
use Rattle.css_out.specs.Spelling.{line_text}
use Rattle.css_out.specs.inner.Added.{with_pieces, started}
use Rattle.css_out.specs.declared.line.Line.{Line}
use Rattle.css_out.proofs.PiecesAddUp.{line_done}

abbrev declared : List ℕ → List Piece → Declared
declared name ps = record { name = name; pieces = ps }

-- a line of one part
pub part_done : (l : Line) (name : List ℕ) (p : Part) → (with_pieces (started l name) (shown_part p)).text ++ codes ";\n" ≡ l.text ++ line_text (declared name (shown (p ∷ [])))
part_done l name p = line_done l name (shown_part p) ∙ ap (λ ps. l.text ++ line_text (declared name ps)) (sym (append-nil (shown_part p)))

-- a line alone
pub alone_done : (l : Line) (name : List ℕ) (ps : List Piece) → l.text ≡ [] → (with_pieces (started l name) ps).text ++ codes ";\n" ≡ line_text (declared name ps) ++ []
alone_done l name ps none =
    line_done l name ps ∙ ap (λ t. t ++ line_text (declared name ps)) none ∙ sym (append-nil (line_text (declared name ps)))

-- five texts, and five names, one after the other
pub five_texts : (t u v w x y a b c d e : List ℕ) → u ≡ t ++ a → v ≡ u ++ b → w ≡ v ++ c → x ≡ w ++ d → y ≡ x ++ e → y ≡ t ++ (a ++ (b ++ (c ++ (d ++ (e ++ [])))))
five_texts t u v w x y a b c d e i j k l m = rw (m, l, k, j, i, append-nil e) (simp append_assoc)

pub five_names : (t u v w x y : List (List ℕ)) (a b c d e : List ℕ) → u ≡ t ++ a ∷ [] → v ≡ u ++ b ∷ [] → w ≡ v ++ c ∷ [] → x ≡ w ++ d ∷ [] → y ≡ x ++ e ∷ []
    → y ≡ t ++ (a ∷ b ∷ c ∷ d ∷ e ∷ [])
five_names t u v w x y a b c d e i j k l m = rw (m, l, k, j, i) (simp append_assoc)
