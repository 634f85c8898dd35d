-- Pieces that are added one after another.
use Rattle.std.proofs.Common.{◌≡◌, ℕ, ◌||◌, true, List, [], ◌∷◌, ◌++◌, map, refl, sym, ◌∙◌, ap, append_assoc, append-nil, codes}
use Rattle.std.proofs.lemmas.Grind.{flat_map-append}
use Rattle.css_out.specs.Piece.{Mark, Piece, mark, opens, closes, is_opening}
use Rattle.css_out.specs.Parts.{Part, shown_part, shown}
use Rattle.css_out.specs.Spelling.{is_tight, piece_text, pieces_from, line_text}
use Rattle.css_out.specs.inner.Added.{gap, with_piece, with_pieces, with_marks, started}
use Rattle.css_out.specs.declared.line.Line.{Line}

pub marked_append : (l : Line) (ms ns : List Mark) → with_marks l (ms ++ ns) ≡ with_marks (with_marks l ms) ns
marked_append l [] ns = refl
marked_append l (m ∷ ms) ns = marked_append (with_piece l (mark m)) ms ns

pub added_append : (l : Line) (ps qs : List Piece) → with_pieces l (ps ++ qs) ≡ with_pieces (with_pieces l ps) qs
added_append l [] qs = refl
added_append l (p ∷ ps) qs = added_append (with_piece l p) ps qs

pub added_marks : (l : Line) (ms : List Mark) → with_pieces l (map mark ms) ≡ with_marks l ms
added_marks l [] = refl
added_marks l (m ∷ ms) = added_marks (with_piece l (mark m)) ms

pub shown_append : (ps qs : List Part) → shown (ps ++ qs) ≡ shown ps ++ shown qs
shown_append ps qs = flat_map-append shown_part ps qs

-- a part before others
pub added_part : (l : Line) (p : Part) (ps : List Part) → with_pieces l (shown (p ∷ ps)) ≡ with_pieces (with_pieces l (shown_part p)) (shown ps)
added_part l p ps = added_append l (shown_part p) (shown ps)

pub added_parts : (l : Line) (ps qs : List Part) → with_pieces l (shown (ps ++ qs)) ≡ with_pieces (with_pieces l (shown ps)) (shown qs)
added_parts l ps qs = ap (with_pieces l) (shown_append ps qs) ∙ added_append l (shown ps) (shown qs)

pub added_text : (l : Line) (ps : List Piece) → (with_pieces l ps).text ≡ l.text ++ pieces_from l.is_tight ps
added_text l [] = sym (append-nil l.text)
added_text l (p ∷ ps) =
    let g = gap (is_tight p || l.is_tight) in
    let more = pieces_from (is_opening p) ps in
    added_text (with_piece l p) ps ∙ append_assoc l.text (g ++ piece_text p) more ∙ ap (λ t. l.text ++ t) (append_assoc g (piece_text p) more)

-- a declaration from its start to its end
pub line_done : (l : Line) (name : List ℕ) (ps : List Piece) → (with_pieces (started l name) ps).text ++ codes ";\n" ≡ l.text ++ line_text (record { name = name; pieces = ps })
line_done l name ps =
    let start = codes "  " ++ (name ++ codes ": ") in
    let value = pieces_from true ps in
    ap (λ t. t ++ codes ";\n") (added_text (started l name) ps)
    ∙ append_assoc (l.text ++ start) value (codes ";\n")
    ∙ append_assoc l.text start (value ++ codes ";\n")
    ∙ ap (λ t. l.text ++ (codes "  " ++ t)) (append_assoc name (codes ": ") (value ++ codes ";\n"))

pub two_parts : (l : Line) (p q : Part) → with_pieces l (shown (p ∷ q ∷ [])) ≡ with_pieces (with_pieces l (shown_part p)) (shown_part q)
two_parts l p q = added_part l p (q ∷ []) ∙ ap (with_pieces (with_pieces l (shown_part p))) (append-nil (shown_part q))

pub three_parts : (l : Line) (p q r : Part) → with_pieces l (shown (p ∷ q ∷ r ∷ [])) ≡ with_pieces (with_pieces (with_pieces l (shown_part p)) (shown_part q)) (shown_part r)
three_parts l p q r = added_part l p (q ∷ r ∷ []) ∙ two_parts (with_pieces l (shown_part p)) q r

pub six_parts : (l : Line) (a b p q r s : Part) → with_pieces l (shown (a ∷ b ∷ p ∷ q ∷ r ∷ s ∷ []))
    ≡ with_pieces (with_pieces (with_pieces (with_pieces (with_pieces (with_pieces l (shown_part a)) (shown_part b)) (shown_part p)) (shown_part q)) (shown_part r)) (shown_part s)
six_parts l a b p q r s =
    added_part l a (b ∷ p ∷ q ∷ r ∷ s ∷ []) ∙ added_part (with_pieces l (shown_part a)) b (p ∷ q ∷ r ∷ s ∷ []) ∙ added_part (with_pieces (with_pieces l (shown_part a)) (shown_part b)) p (q ∷ r ∷ s ∷ [])
    ∙ three_parts (with_pieces (with_pieces (with_pieces l (shown_part a)) (shown_part b)) (shown_part p)) q r s

-- a function from its name to its end
pub call_marked : (l : Line) (w : List ℕ) (a b d : List Mark)
    → with_piece (with_marks (with_marks (with_marks (with_piece l (mark (opens w))) a) b) d) (mark closes) ≡ with_marks l (opens w ∷ (a ++ (b ++ (d ++ closes ∷ []))))
call_marked l w a b d =
    let m = with_piece l (mark (opens w)) in
    sym (marked_append m a (b ++ (d ++ closes ∷ [])) ∙ marked_append (with_marks m a) b (d ++ closes ∷ []) ∙ marked_append (with_marks (with_marks m a) b) d (closes ∷ []))
