-- The bytes of pieces, lines and fragments.
use Rattle.std.specs.Prelude.{ℕ, ◌||◌, Bool, true, false, List, [], ◌∷◌, ◌++◌, codes, if◌then◌else◌, map, flat_map}
use Rattle.dec_fix.specs.Writing.{spelling}
use Rattle.name_path.specs.declared.link.Link.{Link}
use Rattle.transforms.specs.Config.{Settings}
use Rattle.transforms.specs.Quoted.{escaped_character}
use Rattle.composite_rules.specs.declared.typed.Typed.{Typed}
use Rattle.css_out.specs.Piece.{Mark, Piece, mark, var, number, percent, unit, string, word, opens, closes, comma, slash, is_comma, is_opening, is_closing, value_names}
use Rattle.css_out.specs.PlatformValue.{css_values}
use Rattle.css_out.specs.Reading.{Declared}
use Rattle.css_out.specs.Parts.{declaration}
use Rattle.css_out.specs.Fragment.{css_name, entries_under}

abbrev pub mark_text : Mark → List ℕ
mark_text (number d) = spelling d
mark_text (percent d) = spelling d ++ codes "%"
mark_text (unit d w) = spelling d ++ w
mark_text (string x) = codes "\"" ++ (flat_map escaped_character x ++ codes "\"")
mark_text (word w) = w
mark_text (opens w) = w ++ codes "("
mark_text closes = codes ")"
mark_text comma = codes ","
mark_text slash = codes "/"

abbrev pub piece_text : Piece → List ℕ
piece_text (mark m) = mark_text m
piece_text (var n) = codes "var(" ++ (n ++ codes ")")

abbrev pub is_comma_piece : Piece → Bool
is_comma_piece (mark m) = is_comma m
is_comma_piece (var n) = false

-- no blank stands before a comma and before the end of a function
abbrev pub is_tight : Piece → Bool
is_tight p = is_comma_piece p || is_closing p

-- A blank stands between two pieces; not at the start (where it is tight), after the name of a function, before a comma and
-- before a function's end.
abbrev pub pieces_from : Bool → List Piece → List ℕ
pieces_from tight [] = []
pieces_from tight (p ∷ ps) =
    (if is_tight p || tight then [] else codes " ") ++ (piece_text p ++ pieces_from (is_opening p) ps)

abbrev pub pieces_text : List Piece → List ℕ
pieces_text ps = pieces_from true ps

-- two blanks, the name, `: `, the value, `;` and a newline
abbrev pub line_text : Declared → List ℕ
line_text d = codes "  " ++ (d.name ++ (codes ": " ++ (pieces_text d.pieces ++ codes ";\n")))

abbrev pub omitted_text : List ℕ → List ℕ
omitted_text name = codes "  /* omitted " ++ (name ++ codes " */\n")

-- the lines of a token of the name; a comment where it has none
abbrev pub body_text : List ℕ → List Declared → List ℕ
body_text name [] = omitted_text name
body_text name (d ∷ ds) = flat_map line_text (d ∷ ds)

-- the lines of the token of the name, the names that they declare, and their text
abbrev pub lines_under : Settings → List ℕ → List Link → Typed → List Declared
lines_under settings name links v = map declaration (entries_under settings name links v)

abbrev pub names_under : List ℕ → Typed → List (List ℕ)
names_under name v = value_names (css_values name v)

abbrev pub text_under : Settings → List ℕ → List Link → Typed → List ℕ
text_under settings name links v = body_text name (lines_under settings name links v)

-- the same of the token at the path
abbrev pub fragment_lines : Settings → List (List ℕ) → List Link → Typed → List Declared
fragment_lines settings path links v = lines_under settings (css_name settings.prefix path) links v

abbrev pub fragment_names : Settings → List (List ℕ) → Typed → List (List ℕ)
fragment_names settings path v = names_under (css_name settings.prefix path) v

abbrev pub fragment_text : Settings → List (List ℕ) → List Link → Typed → List ℕ
fragment_text settings path links v = text_under settings (css_name settings.prefix path) links v
