-- Lines that grow piece by piece.
use Rattle.std.specs.Prelude.{ℕ, ◌||◌, Bool, true, List, [], ◌∷◌, ◌++◌, codes, if◌then◌else◌}
use Rattle.css_out.specs.Piece.{Mark, Piece, mark, is_opening}
use Rattle.css_out.specs.Spelling.{is_tight, piece_text}
use Rattle.css_out.specs.declared.line.Line.{Line}

-- a blank, where the line is not tight
abbrev pub gap : Bool → List ℕ
gap tight = if tight then [] else codes " "

abbrev pub with_piece : Line → Piece → Line
with_piece l p = record { text = l.text ++ (gap (is_tight p || l.is_tight) ++ piece_text p); is_tight = is_opening p }

abbrev pub with_pieces : Line → List Piece → Line
with_pieces l [] = l
with_pieces l (p ∷ ps) = with_pieces (with_piece l p) ps

abbrev pub with_marks : Line → List Mark → Line
with_marks l [] = l
with_marks l (m ∷ ms) = with_marks (with_piece l (mark m)) ms

-- the start of a declaration
abbrev pub started : Line → List ℕ → Line
started l name = record { text = l.text ++ (codes "  " ++ (name ++ codes ": ")); is_tight = true }
