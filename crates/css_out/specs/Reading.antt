-- How a style sheet is read, in the profile of CSS that outputs keep to: one block of declarations of custom properties.
-- Blanks, newlines and comments give nothing. Nothing here knows of tokens or kinds.
use Rattle.std.specs.Prelude.{◌≡◌, zero, suc, ℕ, ◌==◌, ◌&&◌, ◌||◌, Bool, true, false, List, [], ◌∷◌, ◌++◌, codes, Option, Some, None, if◌then◌else◌}
use Rattle.std.specs.Char.{is_ascii_alphabetic, is_ascii_alphanumeric, is_ascii_digit}
use Rattle.std.specs.Str.{bytes_eq}
use Rattle.dec_fix.specs.Decimal.{Decimal}
use Rattle.dec_fix.specs.Following.{unsigned_at}
use Rattle.transforms.specs.Quoted.{string_from}
use Rattle.transforms.specs.Runs.{first_run, behind_run, starts_digit}
use Rattle.tk_io.specs.Characters.{quote, newline, blank, percent_sign, left_bracket, right_bracket, asterisk, comma_sign, hyphen, solidus, colon_sign, semicolon, low_line}
use Rattle.css_out.specs.Piece.{Piece, mark, var, number, percent, unit, string, word, opens, closes, comma, slash, is_opening, is_closing}

-- a byte of a word: an ASCII letter, a digit or `-`
abbrev pub in_word : ℕ → Bool
in_word c = is_ascii_alphanumeric c || (c == hyphen)

-- a byte of a name after its `--`: an ASCII letter, a digit, `_` or `-`
abbrev pub in_name : ℕ → Bool
in_name c = is_ascii_alphanumeric c || ((c == low_line) || (c == hyphen))

abbrev pub is_some : List ℕ → Bool
is_some [] = false
is_some (c ∷ t) = true

-- a name up to its `)`, after `var(--`
abbrev pub closed_name : List ℕ → List ℕ → Option (Piece × List ℕ)
closed_name n [] = None
closed_name n (c ∷ t) = if (c == right_bracket) && is_some n then Some (var (codes "--" ++ n), t) else None

abbrev pub var_at : List ℕ → Option (Piece × List ℕ)
var_at [] = None
var_at (c ∷ []) = None
var_at (c ∷ d ∷ t) =
    if (c == hyphen) && (d == hyphen) then closed_name (first_run in_name t) (behind_run in_name t) else None

abbrev pub is_var : List ℕ → Bool
is_var w = bytes_eq w (codes "var")

-- a word, or a function where a `(` stands directly after it
abbrev pub worded : List ℕ → List ℕ → Option (Piece × List ℕ)
worded w [] = Some (mark (word w), [])
worded w (c ∷ t) =
    if c == left_bracket then (if is_var w then var_at t else Some (mark (opens w), t))
    else Some (mark (word w), c ∷ t)

abbrev pub string_piece : Option (List ℕ × List ℕ) → Option (Piece × List ℕ)
string_piece None = None
string_piece (Some r) = Some (mark (string r.0), r.1)

-- letters or `%` directly after a number make a unit or a percentage
abbrev pub measured : Decimal → List ℕ → Option (Piece × List ℕ)
measured d [] = Some (mark (number d), [])
measured d (c ∷ t) = if c == percent_sign then Some (mark (percent d), t)
    else (if is_ascii_alphabetic c
    then Some (mark (unit d (first_run is_ascii_alphabetic (c ∷ t))), behind_run is_ascii_alphabetic (c ∷ t))
    else Some (mark (number d), c ∷ t))

-- a number of any length: digits, and optionally a point and digits
abbrev pub number_piece : Decimal × List ℕ → Option (Piece × List ℕ)
number_piece r = measured r.0 r.1

-- the piece at the start, and what follows it
abbrev pub piece_at : List ℕ → Option (Piece × List ℕ)
piece_at [] = None
piece_at (c ∷ t) =
    if c == comma_sign then Some (mark comma, t)
    else (if c == right_bracket then Some (mark closes, t)
    else (if c == solidus then Some (mark slash, t)
    else (if c == quote then string_piece (string_from false t)
    else (if is_ascii_digit c then number_piece (unsigned_at false (c ∷ t))
    else (if (c == hyphen) && starts_digit t then number_piece (unsigned_at true t)
    else (if is_ascii_alphabetic c then worded (first_run in_word (c ∷ t)) (behind_run in_word (c ∷ t)) else None))))))

abbrev pub is_blank : ℕ → Bool
is_blank c = (c == blank) || (c == newline)

-- what follows the `*/` of a comment
abbrev pub after_comment : List ℕ → Option (List ℕ)
after_comment [] = None
after_comment (c ∷ []) = None
after_comment (c ∷ d ∷ t) = if (c == asterisk) && (d == solidus) then Some t else after_comment (d ∷ t)

-- what follows a comment, after its `/`
abbrev pub skip_star : List ℕ → Option (List ℕ)
skip_star [] = None
skip_star (c ∷ t) = if c == asterisk then after_comment t else None

abbrev pub starts_star : List ℕ → Bool
starts_star [] = false
starts_star (c ∷ t) = c == asterisk

-- what stands at the start of a value: its end, something that gives nothing, a piece, or none of these
pub data ValueStep : Type 0 where
  stop : ValueStep
  skip : List ℕ → ValueStep
  take : Piece → List ℕ → ValueStep
  wrong : ValueStep

abbrev pub skipped : Option (List ℕ) → ValueStep
skipped None = wrong
skipped (Some t) = skip t

abbrev pub taken : Option (Piece × List ℕ) → ValueStep
taken None = wrong
taken (Some r) = take r.0 r.1

abbrev pub step : List ℕ → ValueStep
step [] = wrong
step (c ∷ t) =
    if c == semicolon then stop
    else (if is_blank c then skip t
    else (if (c == solidus) && starts_star t then skipped (skip_star t)
    else taken (piece_at (c ∷ t))))

-- A value's pieces up to its `;`, with which the second text begins.
pub data Pieces : List ℕ → List Piece → List ℕ → Type 0 where
  stops : (t : List ℕ) → step t ≡ stop → Pieces t [] t
  skips : (t s : List ℕ) (ps : List Piece) (u : List ℕ) → step t ≡ skip s → Pieces s ps u → Pieces t ps u
  takes : (t s : List ℕ) (p : Piece) (ps : List Piece) (u : List ℕ) → step t ≡ take p s → Pieces s ps u
      → Pieces t (p ∷ ps) u

-- each function is closed, and k more that are open before the pieces
abbrev pub is_zero : ℕ → Bool
is_zero zero = true
is_zero (suc k) = false

abbrev pub with_one_less : (ℕ → Bool) → ℕ → Bool
with_one_less f zero = false
with_one_less f (suc k) = f k

abbrev pub are_closed : ℕ → List Piece → Bool
are_closed k [] = is_zero k
are_closed k (p ∷ ps) =
    if is_opening p then are_closed (suc k) ps
    else (if is_closing p then with_one_less (λ j. are_closed j ps) k
    else are_closed k ps)

-- what stands between a name and its value: the `:`, something that gives nothing before it, or neither
abbrev pub colon : List ℕ → ValueStep
colon [] = wrong
colon (c ∷ t) =
    if c == colon_sign then stop
    else (if is_blank c then skip t
    else (if c == solidus then skipped (skip_star t) else wrong))

abbrev pub tail : List ℕ → List ℕ
tail [] = []
tail (c ∷ t) = t

-- what follows the `:`
pub data Colon : List ℕ → List ℕ → Type 0 where
  meets : (t : List ℕ) → colon t ≡ stop → Colon t (tail t)
  misses : (t s u : List ℕ) → colon t ≡ skip s → Colon s u → Colon t u

-- a declaration: a name and its pieces
pub record Declared : Type 0 where
  pub name : List ℕ
  pub pieces : List Piece

-- what stands at the start of a block: its end, something that gives nothing, a name, or none of these
pub data Turn : Type 0 where
  over : Turn
  pass : List ℕ → Turn
  names : List ℕ → List ℕ → Turn
  other : Turn

-- a comment gives nothing, and is passed over where it ends
abbrev pub comment_turn : Option (List ℕ) → Turn
comment_turn None = other
comment_turn (Some t) = pass t

-- `--` and one byte of a name or more, after which something stands
abbrev pub name_turn : List ℕ → List ℕ → Turn
name_turn n [] = other
name_turn n (c ∷ t) = if is_some n then names (codes "--" ++ n) (c ∷ t) else other

abbrev pub dashed : List ℕ → Turn
dashed [] = other
dashed (c ∷ t) = if c == hyphen then name_turn (first_run in_name t) (behind_run in_name t) else other

abbrev pub turn : List ℕ → Turn
turn [] = over
turn (c ∷ t) =
    if is_blank c then pass t
    else (if c == solidus then comment_turn (skip_star t)
    else (if c == hyphen then dashed t else other))

-- The declarations of a text, read alone.
pub data Block : List ℕ → List Declared → Type 0 where
  ended : (t : List ℕ) → turn t ≡ over → Block t []
  passes : (t s : List ℕ) (ds : List Declared) → turn t ≡ pass s → Block s ds → Block t ds
  declared : (t n s u v : List ℕ) (ps : List Piece) (ds : List Declared) → turn t ≡ names n s → Colon s u
      → Pieces u ps v
      → are_closed 0 ps ≡ true → Block (tail v) ds → Block t (record { name = n; pieces = ps } ∷ ds)

abbrev pub head : List ℕ
head = codes ":root {\n"

abbrev pub foot : List ℕ
foot = codes "}\n"

-- a whole sheet, and what it declares
pub record Reads (bytes : List ℕ) (ds : List Declared) : Type 0 where
  pub inside : List ℕ
  pub frame : bytes ≡ head ++ (inside ++ foot)
  pub block : Block inside ds
