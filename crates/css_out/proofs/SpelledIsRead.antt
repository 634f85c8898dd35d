-- What is spelled is read as it is.
use Rattle.std.proofs.Common.{◌≡◌, ℕ, ◌==◌, ◌&&◌, ◌||◌, not, Bool, true, false, List, [], ◌∷◌, ◌++◌, flat_map, length, refl, sym, ◌∙◌, ap, subst, append_assoc, append-nil, Some, codes, arith, nat_eq, nat_lt}
use Rattle.std.specs.Prelude.{if◌then◌else◌}
use Rattle.std.specs.Char.{is_ascii_alphabetic, is_ascii_digit}
use Rattle.std.specs.List.{list_all, starts_with, AllByRecursion}
use Rattle.std.proofs.lemmas.Bool.Decides.{nat_tests}
use Rattle.dec_fix.specs.Decimal.{Decimal, IsDec}
use Rattle.dec_fix.specs.Following.{number_at, ends_number}
use Rattle.dec_fix.specs.Writing.{spelling}
use Rattle.dec_fix.proofs.Again.{both, number_again}
use Rattle.transforms.specs.PlatformName.{is_kept, is_property}
use Rattle.transforms.specs.declared.platform.Platform.TheVariants.{Css}
use Rattle.transforms.specs.Quoted.{escaped_character}
use Rattle.transforms.specs.Runs.{ends_run, starts_digit, starts_number}
use Rattle.transforms.proofs.QuotedReadsBack.{string_again}
use Rattle.transforms.proofs.RunsAreFirst.{first_run-append, behind_run-append, numbers_start}
use Rattle.css_out.specs.Piece.{Piece, mark, var, number, percent, unit, string, word, opens, closes, comma, slash, is_opening}
use Rattle.css_out.specs.Reading.{in_word, in_name, is_some, is_var, worded, string_piece, measured, number_piece, is_blank, after_comment, take, taken, step, Pieces, stops, skips, takes, are_closed, meets, Declared, names, comment_turn, turn, Block, ended, passes, declared}
use Rattle.css_out.specs.Spelling.{piece_text, is_tight, pieces_from, pieces_text, line_text, omitted_text, body_text}
use Rattle.css_out.proofs.SpellablePieces.{is_word, is_unit, IsSpellable, AreSpellable}

-- a blank, a comma, `)` or `;` ends each piece
abbrev ends : List ℕ → Bool
ends [] = false
ends (c ∷ t) = (c == 32) || ((c == 44) || ((c == 41) || (c == 59)))

-- runs of bytes
ends_letters : (t : List ℕ) → ends t ≡ true → ends_run is_ascii_alphabetic t ≡ true
ends_letters [] e = refl
ends_letters (c ∷ t) e = grind arith

ends_words : (t : List ℕ) → ends t ≡ true → ends_run in_word t ≡ true
ends_words [] e = refl
ends_words (c ∷ t) e = grind arith

ends_numbers : (t : List ℕ) → ends t ≡ true → ends_number t ≡ true
ends_numbers [] e = refl
ends_numbers (c ∷ t) e = grind arith

-- numbers
digit_step : (c : ℕ) (t : List ℕ) → is_ascii_digit c ≡ true → step (c ∷ t) ≡ taken (number_piece (number_at (c ∷ t)))
digit_step c t h =
    let a : (c == 59) ≡ false = grind arith in let b : is_blank c ≡ false = grind arith in
    let d : (c == 47) ≡ false = grind arith in let f : (c == 44) ≡ false = grind arith in
    let g : (c == 41) ≡ false = grind arith in let i : (c == 34) ≡ false = grind arith in
    let j : (c == 45) ≡ false = grind arith in
    rw (a, b, d, f, g, i, j, h) refl

minus_step : (c : ℕ) (t : List ℕ) → (c == 45) && starts_digit t ≡ true → step (c ∷ t) ≡ taken (number_piece (number_at (c ∷ t)))
minus_step c t h =
    let l = both (c == 45) (starts_digit t) h in
    let minus : c ≡ 45 = grind (arith, nat_tests, l.0) in
    rw (minus, l.1) refl

either_step : (b : Bool) (c : ℕ) (t : List ℕ) → is_ascii_digit c ≡ b → b || ((c == 45) && starts_digit t) ≡ true → step (c ∷ t) ≡ taken (number_piece (number_at (c ∷ t)))
either_step true c t e h = digit_step c t e
either_step false c t e h = minus_step c t h

numeric : (t : List ℕ) → starts_number t ≡ true → step t ≡ taken (number_piece (number_at t))
numeric [] h = cc
numeric (c ∷ t) h = either_step (is_ascii_digit c) c t refl h

spelling_step : (d : Decimal) (t : List ℕ) → IsDec d → ends_number t ≡ true → step (spelling d ++ t) ≡ taken (measured d t)
spelling_step d t h e =
    numeric (spelling d ++ t) (numbers_start d t h) ∙ ap (λ r. taken (number_piece r)) (number_again d t h e)

measured_none : (d : Decimal) (t : List ℕ) → ends t ≡ true → measured d t ≡ Some (mark (number d), t)
measured_none d [] e = refl
measured_none d (c ∷ t) e = let a : (c == 37) ≡ false = grind arith in let b : is_ascii_alphabetic c ≡ false = grind arith in rw (a, b) refl

number_step : (d : Decimal) (t : List ℕ) → IsDec d → ends t ≡ true → step (spelling d ++ t) ≡ take (mark (number d)) t
number_step d t h e = spelling_step d t h (ends_numbers t e) ∙ ap taken (measured_none d t e)

percent_step : (d : Decimal) (t : List ℕ) → IsDec d → step ((spelling d ++ (37 ∷ [])) ++ t) ≡ take (mark (percent d)) t
percent_step d t h = rw (append_assoc (spelling d) (37 ∷ []) t) (spelling_step d (37 ∷ t) h refl)

letters_number : (w t : List ℕ) → is_unit w ≡ true → ends_number (w ++ t) ≡ true
letters_number [] t h = cc
letters_number (c ∷ w) t h = let l = both (is_ascii_alphabetic c) (list_all is_ascii_alphabetic w) h in grind (arith, l.0)

measured_unit : (d : Decimal) (w t : List ℕ) → is_unit w ≡ true → ends_run is_ascii_alphabetic t ≡ true → measured d (w ++ t) ≡ Some (mark (unit d w), t)
measured_unit d [] t h e = cc
measured_unit d (c ∷ w) t h e = let l = both (is_ascii_alphabetic c) (list_all is_ascii_alphabetic w) h in
    let a : (c == 37) ≡ false = grind (arith, l.0) in
    rw (a, l.0, first_run-append is_ascii_alphabetic w t l.1 e, behind_run-append is_ascii_alphabetic w t l.1 e) refl

unit_step : (d : Decimal) (w t : List ℕ) → IsDec d → is_unit w ≡ true → ends t ≡ true → step ((spelling d ++ w) ++ t) ≡ take (mark (unit d w)) t
unit_step d w t h l e = rw (append_assoc (spelling d) w t)
    (spelling_step d (w ++ t) h (letters_number w t l) ∙ ap taken (measured_unit d w t l (ends_letters t e)))

-- words
letter_step : (c : ℕ) (w t : List ℕ) → is_ascii_alphabetic c ≡ true → list_all in_word w ≡ true → ends_run in_word t ≡ true → step (c ∷ (w ++ t)) ≡ taken (worded (c ∷ w) t)
letter_step c w t h l e =
    let a : (c == 59) ≡ false = grind arith in let b : is_blank c ≡ false = grind arith in
    let d : (c == 47) ≡ false = grind arith in let f : (c == 44) ≡ false = grind arith in
    let g : (c == 41) ≡ false = grind arith in let i : (c == 34) ≡ false = grind arith in
    let j : is_ascii_digit c ≡ false = grind arith in let k : (c == 45) ≡ false = grind arith in
    rw (a, b, d, f, g, i, j, k, h, first_run-append in_word w t l e, behind_run-append in_word w t l e) refl

worded_step : (w t : List ℕ) → is_word w ≡ true → ends_run in_word t ≡ true → step (w ++ t) ≡ taken (worded w t)
worded_step [] t h e = cc
worded_step (c ∷ w) t h e = let l = both (is_ascii_alphabetic c) (list_all in_word w) h in letter_step c w t l.0 l.1 e

worded_none : (w t : List ℕ) → ends t ≡ true → worded w t ≡ Some (mark (word w), t)
worded_none w [] e = refl
worded_none w (c ∷ t) e = let a : (c == 40) ≡ false = grind arith in rw a refl

word_step : (w t : List ℕ) → is_word w ≡ true → ends t ≡ true → step (w ++ t) ≡ take (mark (word w)) t
word_step w t h e = worded_step w t h (ends_words t e) ∙ ap taken (worded_none w t e)

opens_step : (w t : List ℕ) → is_word w ≡ true → is_var w ≡ false → step ((w ++ (40 ∷ [])) ++ t) ≡ take (mark (opens w)) t
opens_step w t h v = rw (append_assoc w (40 ∷ []) t) (worded_step w (40 ∷ t) h refl ∙ rw v refl)

-- strings
string_step : (x t : List ℕ) → step ((34 ∷ (flat_map escaped_character x ++ (34 ∷ []))) ++ t) ≡ take (mark (string x)) t
string_step x t = rw (append_assoc (flat_map escaped_character x) (34 ∷ []) t) (ap (λ r. taken (string_piece r)) (string_again x t))

slash_step : (t : List ℕ) → ends t ≡ true → step (47 ∷ t) ≡ take (mark slash) t
slash_step [] e = cc
slash_step (c ∷ t) e = let a : (c == 42) ≡ false = grind arith in rw a refl

-- names
record IsBehind (name : List ℕ) : Type 0 where
  inside : List ℕ
  whole : name ≡ 45 ∷ 45 ∷ inside
  some : is_some inside ≡ true
  kept : list_all in_name inside ≡ true

short : (b c : Bool) → b && (false && c) ≡ true → ⊥
short true c h = cc
short false c h = cc

some_inside : (a b : ℕ) (m : List ℕ) → nat_lt 2 (length (a ∷ b ∷ m)) ≡ true → is_some m ≡ true
some_inside a b [] h = cc
some_inside a b (c ∷ m) h = refl

behind_dashes : (name : List ℕ) → is_property name ≡ true → IsBehind name
behind_dashes [] h = cc
behind_dashes (a ∷ []) h = absurd (short (starts_with nat_eq (a ∷ []) (codes "--")) (list_all (is_kept Css) (a ∷ [])) h)
behind_dashes (a ∷ b ∷ m) h =
    let l = both (starts_with nat_eq (a ∷ b ∷ m) (codes "--")) (nat_lt 2 (length (a ∷ b ∷ m)) && list_all (is_kept Css) (a ∷ b ∷ m)) h in
    let k = both (nat_lt 2 (length (a ∷ b ∷ m))) (list_all (is_kept Css) (a ∷ b ∷ m)) l.1 in
    let i = both (is_kept Css a) (list_all (is_kept Css) (b ∷ m)) k.1 in
    let j = both (is_kept Css b) (list_all (is_kept Css) m) i.1 in
    let first : 45 ≡ a = grind (arith, nat_tests, l.0) in
    let second : 45 ≡ b = grind (arith, nat_tests, l.0) in
    let some : is_some m ≡ true = some_inside a b m k.0 in
    record { inside = m; whole = rw (sym first, sym second) refl; some = some; kept = j.1 }

var_inside : (n t : List ℕ) → is_some n ≡ true → list_all in_name n ≡ true
    → step ((118 ∷ 97 ∷ 114 ∷ 40 ∷ ((45 ∷ 45 ∷ n) ++ (41 ∷ []))) ++ t) ≡ take (var (45 ∷ 45 ∷ n)) t
var_inside n t some h = rw (append_assoc n (41 ∷ []) t, first_run-append in_name n (41 ∷ t) h refl, behind_run-append in_name n (41 ∷ t) h refl, some) refl

var_step : (n t : List ℕ) → is_property n ≡ true → step ((118 ∷ 97 ∷ 114 ∷ 40 ∷ (n ++ (41 ∷ []))) ++ t) ≡ take (var n) t
var_step n t h = let b = behind_dashes n h in rw (b.whole) (var_inside b.inside t b.some b.kept)

-- a piece before whatever ends it
piece_step : (p : Piece) (t : List ℕ) → IsSpellable p → (is_opening p ≡ false → ends t ≡ true) → step (piece_text p ++ t) ≡ take p t
piece_step (mark (number d)) t h e = number_step d t h (e refl)
piece_step (mark (percent d)) t h e = percent_step d t h
piece_step (mark (unit d w)) t h e = unit_step d w t h.0 h.1 (e refl)
piece_step (mark (string x)) t h e = string_step x t
piece_step (mark (word w)) t h e = word_step w t h (e refl)
piece_step (mark (opens w)) t h e = opens_step w t h.0 h.1
piece_step (mark closes) t h e = refl
piece_step (mark comma) t h e = refl
piece_step (mark slash) t h e = slash_step t (e refl)
piece_step (var n) t h e = var_step n t h

-- what follows a piece ends it
follows : (ps : List Piece) (t : List ℕ) → ends t ≡ true → ends (pieces_from false ps ++ t) ≡ true
follows [] t e = e
follows (mark (number d) ∷ ps) t e = refl
follows (mark (percent d) ∷ ps) t e = refl
follows (mark (unit d w) ∷ ps) t e = refl
follows (mark (string x) ∷ ps) t e = refl
follows (mark (word w) ∷ ps) t e = refl
follows (mark (opens w) ∷ ps) t e = refl
follows (mark closes ∷ ps) t e = refl
follows (mark comma ∷ ps) t e = refl
follows (mark slash ∷ ps) t e = refl
follows (var n ∷ ps) t e = refl

gap_read : (b : Bool) (s t : List ℕ) (ps : List Piece) (u : List ℕ) → Pieces (s ++ t) ps u → Pieces (((if b then [] else 32 ∷ []) ++ s) ++ t) ps u
gap_read true s t ps u x = x
gap_read false s t ps u x = skips (32 ∷ (s ++ t)) (s ++ t) ps u refl x

pub read_pieces : (tight : Bool) (ps : List Piece) → AreSpellable ps → (t : List ℕ) (qs : List Piece) (u : List ℕ) → ends t ≡ true → Pieces t qs u
    → Pieces (pieces_from tight ps ++ t) (ps ++ qs) u
read_pieces tight [] h t qs u e x = x
read_pieces tight (p ∷ ps) h t qs u e x =
    let more = pieces_from (is_opening p) ps in
    let follow : is_opening p ≡ false → ends (more ++ t) ≡ true = λ o. rw o (follows ps t e) in
    gap_read (is_tight p || tight) (piece_text p ++ more) t (p ∷ (ps ++ qs)) u
    (rw (append_assoc (piece_text p) more t)
    (takes (piece_text p ++ (more ++ t)) (more ++ t) p (ps ++ qs) u (piece_step p (more ++ t) h.0 follow) (read_pieces (is_opening p) ps h.1 t qs u e x)))

-- a line before other lines
name_read : (v : List ℕ) (ps : List Piece) (ds : List Declared) (t : List ℕ) (m : List ℕ) → is_some m ≡ true → list_all in_name m ≡ true
    → Pieces (v ++ (59 ∷ 10 ∷ t)) ps (59 ∷ 10 ∷ t) → are_closed 0 ps ≡ true → Block t ds
    → Block (32 ∷ 32 ∷ 45 ∷ 45 ∷ (m ++ (58 ∷ 32 ∷ (v ++ (59 ∷ 10 ∷ t))))) (record { name = 45 ∷ 45 ∷ m; pieces = ps } ∷ ds)
name_read v ps ds t m some h x c b =
    let value = 32 ∷ (v ++ (59 ∷ 10 ∷ t)) in
    let turns : turn (45 ∷ 45 ∷ (m ++ (58 ∷ value))) ≡ names (45 ∷ 45 ∷ m) (58 ∷ value) =
    rw (first_run-append in_name m (58 ∷ value) h refl, behind_run-append in_name m (58 ∷ value) h refl, some) refl in
    let read : Pieces value ps (59 ∷ 10 ∷ t) = skips value (v ++ (59 ∷ 10 ∷ t)) ps (59 ∷ 10 ∷ t) refl x in
    passes _ (32 ∷ 45 ∷ 45 ∷ (m ++ (58 ∷ value))) _ refl (passes _ (45 ∷ 45 ∷ (m ++ (58 ∷ value))) _ refl
    (declared _ (45 ∷ 45 ∷ m) (58 ∷ value) value (59 ∷ 10 ∷ t) ps ds turns (meets (58 ∷ value) refl) read c (passes (10 ∷ t) t ds refl b)))

line_around : (n v t : List ℕ) → (32 ∷ 32 ∷ (n ++ (58 ∷ 32 ∷ (v ++ (59 ∷ 10 ∷ []))))) ++ t ≡ 32 ∷ 32 ∷ (n ++ (58 ∷ 32 ∷ (v ++ (59 ∷ 10 ∷ t))))
line_around n v t = rw (append_assoc n (58 ∷ 32 ∷ (v ++ (59 ∷ 10 ∷ []))) t, append_assoc v (59 ∷ 10 ∷ []) t) refl

line_read : (n : List ℕ) (ps : List Piece) (t : List ℕ) (ds : List Declared) → is_property n ≡ true → AreSpellable ps → are_closed 0 ps ≡ true → Block t ds
    → Block (line_text (record { name = n; pieces = ps }) ++ t) (record { name = n; pieces = ps } ∷ ds)
line_read n ps t ds h spelled c b =
    let i = behind_dashes n h in
    let P : List Piece → Type 0 = λ qs. Pieces (pieces_text ps ++ (59 ∷ 10 ∷ t)) qs (59 ∷ 10 ∷ t) in
    let read : Pieces (pieces_text ps ++ (59 ∷ 10 ∷ t)) ps (59 ∷ 10 ∷ t) =
    subst P (append-nil ps) (read_pieces true ps spelled (59 ∷ 10 ∷ t) [] (59 ∷ 10 ∷ t) refl (stops (59 ∷ 10 ∷ t) refl)) in
    rw (line_around n (pieces_text ps) t, i.whole) (name_read (pieces_text ps) ps ds t i.inside i.some i.kept read c b)

-- a declaration that can be spelled
pub record IsLine (d : Declared) : Type 0 where
  pub name : is_property d.name ≡ true
  pub pieces : AreSpellable d.pieces
  pub closed : are_closed 0 d.pieces ≡ true

pub lines_read : (ds : List Declared) → AllByRecursion IsLine ds → Block (flat_map line_text ds) ds
lines_read [] h = ended [] refl
lines_read (d ∷ ds) h = line_read d.name d.pieces (flat_map line_text ds) ds h.0.name h.0.pieces h.0.closed (lines_read ds h.1)

-- a comment
abbrev no_star : ℕ → Bool
no_star c = not (c == 42)

past_stars : (s t : List ℕ) → list_all no_star s ≡ true → after_comment (s ++ (42 ∷ 47 ∷ t)) ≡ Some t
past_stars [] t h = refl
past_stars (c ∷ []) t h = let l = both (no_star c) true h in let a : (c == 42) ≡ false = grind (arith, l.0) in rw a refl
past_stars (c ∷ d ∷ s) t h = let l = both (no_star c) (list_all no_star (d ∷ s)) h in let a : (c == 42) ≡ false = grind (arith, l.0) in rw a (past_stars (d ∷ s) t l.1)

named_no_star : (n : List ℕ) → list_all in_name n ≡ true → list_all no_star (n ++ (32 ∷ [])) ≡ true
named_no_star [] h = refl
named_no_star (c ∷ n) h = let l = both (in_name c) (list_all in_name n) h in let a : no_star c ≡ true = grind (arith, l.0) in rw a (named_no_star n l.1)

omitted_inside : (n : List ℕ) → list_all in_name n ≡ true → Block (omitted_text (45 ∷ 45 ∷ n)) []
omitted_inside n h =
    let inside = n ++ (32 ∷ 42 ∷ 47 ∷ 10 ∷ []) in
    let P : List ℕ → Type 0 = λ s. after_comment (32 ∷ codes "omitted --" ++ s) ≡ Some (10 ∷ []) in
    let past : after_comment (32 ∷ codes "omitted --" ++ inside) ≡ Some (10 ∷ []) =
    subst P (append_assoc n (32 ∷ []) (42 ∷ 47 ∷ 10 ∷ [])) (past_stars (32 ∷ codes "omitted --" ++ (n ++ (32 ∷ []))) (10 ∷ []) (named_no_star n h)) in
    let whole = 47 ∷ 42 ∷ 32 ∷ (codes "omitted --" ++ inside) in
    passes _ (32 ∷ whole) _ refl (passes _ whole _ refl (passes whole (10 ∷ []) [] (ap comment_turn past) (passes (10 ∷ []) [] [] refl (ended [] refl))))

omitted_read : (n : List ℕ) → is_property n ≡ true → Block (omitted_text n) []
omitted_read n h = let b = behind_dashes n h in rw (b.whole) (omitted_inside b.inside b.kept)

pub body_read : (n : List ℕ) (ds : List Declared) → is_property n ≡ true → AllByRecursion IsLine ds → Block (body_text n ds) ds
body_read n [] h lines = omitted_read n h
body_read n (d ∷ ds) h lines = lines_read (d ∷ ds) lines
