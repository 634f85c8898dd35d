-- What a text declares alone, it declares before any other.
use Rattle.std.proofs.Common.{◌≡◌, ℕ, suc, Bool, true, false, ◌==◌, ◌&&◌, List, [], ◌∷◌, ◌++◌, length, refl, sym, ◌∙◌, ap, subst, Option, Some, None, inl, inr, arith, nat_lt}
use Rattle.std.specs.Prelude.{◌⊎◌, if◌then◌else◌}
use Rattle.std.specs.Char.{is_ascii_alphabetic, is_ascii_digit}
use Rattle.std.proofs.lemmas.Bool.Decides.{nat_tests}
use Rattle.dec_fix.specs.Decimal.{Decimal, decimal_of}
use Rattle.dec_fix.specs.Spelling.{digits_number}
use Rattle.dec_fix.specs.Reading.{digits_front, digits_rest}
use Rattle.dec_fix.specs.Following.{fraction_after, unsigned_at}
use Rattle.transforms.specs.Quoted.{string_from}
use Rattle.transforms.specs.Runs.{first_run, behind_run, starts_digit}
use Rattle.transforms.proofs.QuotedReadsBack.{Longer, string_more}
use Rattle.css_out.specs.Piece.{Piece, mark, var, number, percent, unit, word, opens, closes, comma, slash}
use Rattle.css_out.specs.Reading.{in_word, in_name, is_some, closed_name, var_at, is_var, worded, string_piece, measured, number_piece, starts_star, piece_at, is_blank, after_comment, skip_star, ValueStep, stop, skip, take, wrong, skipped, taken, step, Pieces, stops, skips, takes, colon, Colon, meets, misses, Declared, Turn, over, pass, names, other, comment_turn, name_turn, dashed, turn, tail, Block, ended, passes, declared}

-- runs of bytes
run_by : (b : Bool) (c d : ℕ) (f g r q s u t : List ℕ) → (if b then r else c ∷ s) ≡ d ∷ u → (r ≡ d ∷ u → (g ≡ f) × (q ≡ d ∷ (u ++ t)))
    → ((if b then c ∷ g else []) ≡ (if b then c ∷ f else [])) × ((if b then q else c ∷ (s ++ t)) ≡ d ∷ (u ++ t))
run_by true c d f g r q s u t e again = let (a, b) = again e in (ap (λ x. c ∷ x) a, b)
run_by false c d f g r q s u t e again = let first : c ≡ d = cc in let more : s ≡ u = cc in (refl, rw (first, more) refl)

rest-more : (p : ℕ → Bool) (s t : List ℕ) (d : ℕ) (u : List ℕ) → behind_run p s ≡ d ∷ u → (first_run p (s ++ t) ≡ first_run p s) × (behind_run p (s ++ t) ≡ d ∷ (u ++ t))
rest-more p [] t d u e = cc
rest-more p (c ∷ s) t d u e = run_by (p c) c d (first_run p s) (first_run p (s ++ t)) (behind_run p s) (behind_run p (s ++ t)) s u t e (rest-more p s t d u)

-- what stands at the start of a text stands there before more, unless nothing can be read after it
abbrev Grown : List ℕ → ValueStep → ValueStep → Type 0
Grown t stop z = z ≡ stop
Grown t (skip r) z = z ≡ skip (r ++ t)
Grown t (take p r) z = (step r ≡ wrong) ⊎ (z ≡ take p (r ++ t))
Grown t wrong z = Unit {0}

grown_if : (t : List ℕ) (b : Bool) (x y v w : ValueStep) → Grown t x v → Grown t y w → Grown t (if b then x else y) (if b then v else w)
grown_if t true x y v w h i = h
grown_if t false x y v w h i = i

taken_if : (t : List ℕ) (b : Bool) (x y v w : Option (Piece × List ℕ)) → Grown t (taken x) (taken v) → Grown t (taken y) (taken w) → Grown t (taken (if b then x else y)) (taken (if b then v else w))
taken_if t true x y v w h i = h
taken_if t false x y v w h i = i

skipped_if : (t : List ℕ) (b : Bool) (x y v w : Option (List ℕ)) → Grown t (skipped x) (skipped v) → Grown t (skipped y) (skipped w) → Grown t (skipped (if b then x else y)) (skipped (if b then v else w))
skipped_if t true x y v w h i = h
skipped_if t false x y v w h i = i

-- names and words
closed_more : (x t r : List ℕ) → behind_run in_name x ≡ r
    → Grown t (taken (closed_name (first_run in_name x) r)) (taken (closed_name (first_run in_name (x ++ t)) (behind_run in_name (x ++ t))))
closed_more x t [] e = tt
closed_more x t (d ∷ u) e =
    let (a, b) = rest-more in_name x t d u e in
    rw (a, b) (taken_if t ((d == 41) && is_some (first_run in_name x)) (Some (var (45 ∷ 45 ∷ first_run in_name x), u)) None _ None (inr refl) tt)

var_more : (u t : List ℕ) → Grown t (taken (var_at u)) (taken (var_at (u ++ t)))
var_more [] t = tt
var_more (c ∷ []) t = tt
var_more (c ∷ d ∷ x) t = taken_if t ((c == 45) && (d == 45)) _ None _ None (closed_more x t (behind_run in_name x) refl) tt

worded_more : (w u t : List ℕ) (d : ℕ) → Grown t (taken (worded w (d ∷ u))) (taken (worded w (d ∷ (u ++ t))))
worded_more w u t d = taken_if t (d == 40) _ (Some (mark (word w), d ∷ u)) _ (Some (mark (word w), d ∷ (u ++ t)))
    (taken_if t (is_var w) (var_at u) (Some (mark (opens w), u)) (var_at (u ++ t)) (Some (mark (opens w), u ++ t)) (var_more u t) (inr refl)) (inr refl)

word_more : (s t r : List ℕ) → behind_run in_word s ≡ r → Grown t (taken (worded (first_run in_word s) r)) (taken (worded (first_run in_word (s ++ t)) (behind_run in_word (s ++ t))))
word_more s t [] e = inl refl
word_more s t (d ∷ u) e = let (a, b) = rest-more in_word s t d u e in rw (a, b) (worded_more (first_run in_word s) u t d)

-- numbers
digits-more : (s t : List ℕ) (d : ℕ) (u : List ℕ) → digits_rest s ≡ d ∷ u → (digits_front (s ++ t) ≡ digits_front s) × (digits_rest (s ++ t) ≡ d ∷ (u ++ t))
digits-more [] t d u e = cc
digits-more (c ∷ s) t d u e = run_by (is_ascii_digit c) c d (digits_front s) (digits_front (s ++ t)) (digits_rest s) (digits_rest (s ++ t)) s u t e (digits-more s t d u)

unit_more : (n : Decimal) (s t r : List ℕ) → behind_run is_ascii_alphabetic s ≡ r
    → Grown t (taken (Some (mark (unit n (first_run is_ascii_alphabetic s)), r)))
    (taken (Some (mark (unit n (first_run is_ascii_alphabetic (s ++ t))), behind_run is_ascii_alphabetic (s ++ t))))
unit_more n s t [] e = inl refl
unit_more n s t (d ∷ u) e = let (a, b) = rest-more is_ascii_alphabetic s t d u e in rw (a, b) (inr refl)

measured_more : (n : Decimal) (r t : List ℕ) → Grown t (taken (measured n r)) (taken (measured n (r ++ t)))
measured_more n [] t = inl refl
measured_more n (c ∷ u) t = taken_if t (c == 37) (Some (mark (percent n), u)) _ (Some (mark (percent n), u ++ t)) _ (inr refl)
    (taken_if t (is_ascii_alphabetic c) _ (Some (mark (number n), c ∷ u)) _ (Some (mark (number n), c ∷ (u ++ t)))
    (unit_more n (c ∷ u) t (behind_run is_ascii_alphabetic (c ∷ u)) refl) (inr refl))

numbered_if : (t : List ℕ) (b : Bool) (x y v w : Decimal × List ℕ) → Grown t (taken (number_piece x)) (taken (number_piece v)) → Grown t (taken (number_piece y)) (taken (number_piece w))
    → Grown t (taken (number_piece (if b then x else y))) (taken (number_piece (if b then v else w)))
numbered_if t true x y v w h i = h
numbered_if t false x y v w h i = i

-- a point alone ends a number, but nothing is read after it
point_last : (b : Bool) (negative : Bool) (whole : List ℕ) (c : ℕ) (t : List ℕ) → (c == 46) ≡ b
    → Grown t (taken (number_piece (fraction_after negative whole (c ∷ [])))) (taken (number_piece (fraction_after negative whole (c ∷ t))))
point_last true negative whole c t h = let point : c ≡ 46 = grind (arith, nat_tests) in rw point (inl refl)
point_last false negative whole c t h = rw h (measured_more (decimal_of negative (digits_number whole) 0) (c ∷ []) t)

not_nil : (d : ℕ) (s : List ℕ) → d ∷ s ≡ [] → ⊥
not_nil d s h = cc

-- digits after a byte that is a point or not
abbrev pointed : Bool → List ℕ → ℕ → List ℕ → List ℕ → List ℕ → Decimal × List ℕ
pointed negative whole c ds r s =
    if (c == 46) && nat_lt 0 (length ds) then (decimal_of negative (digits_number (whole ++ ds)) (length ds), r) else (decimal_of negative (digits_number whole) 0, c ∷ s)

all_digits : (negative : Bool) (whole : List ℕ) (c : ℕ) (ds es r s t : List ℕ) → nat_lt 0 (length ds) ≡ true → nat_lt 0 (length es) ≡ true
    → Grown t (taken (number_piece (pointed negative whole c ds [] s))) (taken (number_piece (pointed negative whole c es r (s ++ t))))
all_digits negative whole c ds es r s t h i =
    rw (h, i) (numbered_if t ((c == 46) && true)
    (decimal_of negative (digits_number (whole ++ ds)) (length ds), []) (decimal_of negative (digits_number whole) 0, c ∷ s)
    (decimal_of negative (digits_number (whole ++ es)) (length es), r) (decimal_of negative (digits_number whole) 0, c ∷ (s ++ t))
    (inl refl) (measured_more (decimal_of negative (digits_number whole) 0) (c ∷ s) t))

longer : (n : ℕ) → nat_lt 0 (suc n) ≡ true
longer n = grind (arith, nat_tests)

some_digits : (d : ℕ) (s : List ℕ) → is_ascii_digit d ≡ true → nat_lt 0 (length (digits_front (d ∷ s))) ≡ true
some_digits d s h = rw h (longer (length (digits_front s)))

point_digits : (b : Bool) (negative : Bool) (whole : List ℕ) (c d : ℕ) (s t : List ℕ) → is_ascii_digit d ≡ b → digits_rest (d ∷ s) ≡ []
    → Grown t (taken (number_piece (fraction_after negative whole (c ∷ d ∷ s)))) (taken (number_piece (fraction_after negative whole (c ∷ d ∷ (s ++ t)))))
point_digits true negative whole c d s t h e =
    let P : List ℕ → Type 0 = λ r. Grown t (taken (number_piece (pointed negative whole c (digits_front (d ∷ s)) r (d ∷ s)))) (taken (number_piece (fraction_after negative whole (c ∷ d ∷ (s ++ t))))) in
    subst P (sym e) (all_digits negative whole c (digits_front (d ∷ s)) (digits_front (d ∷ (s ++ t))) (digits_rest (d ∷ (s ++ t))) (d ∷ s) t (some_digits d s h) (some_digits d (s ++ t) h))
point_digits false negative whole c d s t h e =
    let same : digits_rest (d ∷ s) ≡ d ∷ s = rw h refl in
    absurd (not_nil d s (sym same ∙ e))

point_more : (negative : Bool) (whole : List ℕ) (c : ℕ) (s t r : List ℕ) → digits_rest s ≡ r
    → Grown t (taken (number_piece (fraction_after negative whole (c ∷ s)))) (taken (number_piece (fraction_after negative whole (c ∷ (s ++ t)))))
point_more negative whole c [] t [] e = point_last (c == 46) negative whole c t refl
point_more negative whole c (d ∷ s) t [] e = point_digits (is_ascii_digit d) negative whole c d s t refl e
point_more negative whole c s t (d ∷ u) e =
    let (a, b) = digits-more s t d u e in
    rw (a, b, e) (numbered_if t ((c == 46) && nat_lt 0 (length (digits_front s)))
    (decimal_of negative (digits_number (whole ++ digits_front s)) (length (digits_front s)), d ∷ u) (decimal_of negative (digits_number whole) 0, c ∷ s)
    (decimal_of negative (digits_number (whole ++ digits_front s)) (length (digits_front s)), d ∷ (u ++ t)) (decimal_of negative (digits_number whole) 0, c ∷ (s ++ t))
    (measured_more _ (d ∷ u) t) (measured_more (decimal_of negative (digits_number whole) 0) (c ∷ s) t))

number_more : (negative : Bool) (s t r : List ℕ) → digits_rest s ≡ r
    → Grown t (taken (number_piece (fraction_after negative (digits_front s) r))) (taken (number_piece (unsigned_at negative (s ++ t))))
number_more negative s t [] e = inl refl
number_more negative s t (c ∷ u) e = let (a, b) = digits-more s t c u e in rw (a, b) (point_more negative (digits_front s) c u t (digits_rest u) refl)

-- strings
string_taken : (t : List ℕ) (x y : Option (List ℕ × List ℕ)) → Longer t x y → Grown t (taken (string_piece x)) (taken (string_piece y))
string_taken t None y h = tt
string_taken t (Some r) y h = inr (ap (λ z. taken (string_piece z)) h)

-- a piece, where another byte stands after its first
piece_more : (c d : ℕ) (s t : List ℕ) → Grown t (taken (piece_at (c ∷ d ∷ s))) (taken (piece_at (c ∷ d ∷ (s ++ t))))
piece_more c d s t =
    taken_if t (c == 44) (Some (mark comma, d ∷ s)) _ (Some (mark comma, d ∷ (s ++ t))) _ (inr refl)
    (taken_if t (c == 41) (Some (mark closes, d ∷ s)) _ (Some (mark closes, d ∷ (s ++ t))) _ (inr refl)
    (taken_if t (c == 47) (Some (mark slash, d ∷ s)) _ (Some (mark slash, d ∷ (s ++ t))) _ (inr refl)
    (taken_if t (c == 34) _ _ _ _ (string_taken t (string_from false (d ∷ s)) (string_from false (d ∷ (s ++ t))) (string_more false (d ∷ s) t))
    (taken_if t (is_ascii_digit c) _ _ _ _ (number_more false (c ∷ d ∷ s) t (digits_rest (c ∷ d ∷ s)) refl)
    (taken_if t ((c == 45) && is_ascii_digit d) _ _ _ _ (number_more true (d ∷ s) t (digits_rest (d ∷ s)) refl)
    (taken_if t (is_ascii_alphabetic c) _ None _ None (word_more (c ∷ d ∷ s) t (behind_run in_word (c ∷ d ∷ s)) refl) tt))))))

comment_more : (s t : List ℕ) → Grown t (skipped (after_comment s)) (skipped (after_comment (s ++ t)))
comment_more [] t = tt
comment_more (c ∷ []) t = tt
comment_more (c ∷ d ∷ s) t = skipped_if t ((c == 42) && (d == 47)) (Some s) (after_comment (d ∷ s)) (Some (s ++ t)) (after_comment (d ∷ (s ++ t))) refl (comment_more (d ∷ s) t)

star_more : (s t : List ℕ) → Grown t (skipped (skip_star s)) (skipped (skip_star (s ++ t)))
star_more [] t = tt
star_more (c ∷ s) t = skipped_if t (c == 42) (after_comment s) None (after_comment (s ++ t)) None (comment_more s t) tt

-- a test that fails, whatever stands after it
grown_no : (t : List ℕ) (b p q : Bool) (x y v w : ValueStep) → b ≡ false → Grown t y w → Grown t (if b && p then x else y) (if b && q then v else w)
grown_no t true p q x y v w h i = cc
grown_no t false p q x y v w h i = i

taken_no : (t : List ℕ) (b p q : Bool) (x y v w : Option (Piece × List ℕ)) → b ≡ false → Grown t (taken y) (taken w) → Grown t (taken (if b && p then x else y)) (taken (if b && q then v else w))
taken_no t true p q x y v w h i = cc
taken_no t false p q x y v w h i = i

-- one byte alone: nothing is read after it
one_byte : (a b : Bool) (c : ℕ) (t : List ℕ) → (c == 47) ≡ a → (c == 45) ≡ b → Grown t (step (c ∷ [])) (step (c ∷ t))
one_byte true b c t h k = let same : c ≡ 47 = grind (arith, nat_tests) in rw same (inl refl)
one_byte false true c t h k = let same : c ≡ 45 = grind (arith, nat_tests) in rw same tt
one_byte false false c t h k =
    grown_if t (c == 59) stop _ stop _ refl
    (grown_if t (is_blank c) (skip []) _ (skip t) _ refl
    (grown_no t (c == 47) false (starts_star t) _ _ _ _ h
    (taken_if t (c == 44) (Some (mark comma, [])) _ (Some (mark comma, t)) _ (inr refl)
    (taken_if t (c == 41) (Some (mark closes, [])) _ (Some (mark closes, t)) _ (inr refl)
    (taken_if t (c == 47) (Some (mark slash, [])) _ (Some (mark slash, t)) _ (inr refl)
    (taken_if t (c == 34) _ _ _ _ (string_taken t (string_from false []) (string_from false t) (string_more false [] t))
    (taken_if t (is_ascii_digit c) _ _ _ _ (number_more false (c ∷ []) t (digits_rest (c ∷ [])) refl)
    (taken_no t (c == 45) false (starts_digit t) _ _ _ _ k
    (taken_if t (is_ascii_alphabetic c) _ None _ None (word_more (c ∷ []) t (behind_run in_word (c ∷ [])) refl) tt)))))))))

step_more : (s t : List ℕ) → Grown t (step s) (step (s ++ t))
step_more [] t = tt
step_more (c ∷ []) t = one_byte (c == 47) (c == 45) c t refl refl
step_more (c ∷ d ∷ s) t =
    grown_if t (c == 59) stop _ stop _ refl
    (grown_if t (is_blank c) (skip (d ∷ s)) _ (skip (d ∷ (s ++ t))) _ refl
    (grown_if t ((c == 47) && (d == 42)) (skipped (skip_star (d ∷ s))) _ (skipped (skip_star (d ∷ (s ++ t)))) _ (star_more (d ∷ s) t) (piece_more c d s t)))

-- a value
no_pieces : {t : List ℕ} {ps : List Piece} {u : List ℕ} → Pieces t ps u → step t ≡ wrong → ⊥
no_pieces (stops t e) same = cc
no_pieces (skips t s ps u e x) same = cc
no_pieces (takes t s p ps u e x) same = cc

take_more : (s t r : List ℕ) (p : Piece) (ps : List Piece) (u : List ℕ) → step s ≡ take p r → Pieces r ps u → step (s ++ t) ≡ take p (r ++ t)
take_more s t r p ps u e x =
    let P : ValueStep → Type 0 = λ z. Grown t z (step (s ++ t)) in
    elim (subst P e (step_more s t)) as (λ _. step (s ++ t) ≡ take p (r ++ t)) [ inl h ↦ absurd (no_pieces x h) | inr h ↦ h ]

pieces_more : {s : List ℕ} {ps : List Piece} {u : List ℕ} → Pieces s ps u → (t : List ℕ) → Pieces (s ++ t) ps (u ++ t)
pieces_more (stops s e) t = let P : ValueStep → Type 0 = λ z. Grown t z (step (s ++ t)) in stops (s ++ t) (subst P e (step_more s t))
pieces_more (skips s r ps u e x) t = let P : ValueStep → Type 0 = λ z. Grown t z (step (s ++ t)) in skips (s ++ t) (r ++ t) ps (u ++ t) (subst P e (step_more s t)) (pieces_more x t)
pieces_more (takes s r p ps u e x) t = takes (s ++ t) (r ++ t) p ps (u ++ t) (take_more s t r p ps u e x) (pieces_more x t)

stops_there : {s : List ℕ} {ps : List Piece} {u : List ℕ} → Pieces s ps u → step u ≡ stop
stops_there (stops s e) = e
stops_there (skips s r ps u e x) = stops_there x
stops_there (takes s r p ps u e x) = stops_there x

tail_more : (v t : List ℕ) → step v ≡ stop → tail (v ++ t) ≡ tail v ++ t
tail_more [] t e = cc
tail_more (c ∷ v) t e = refl

-- what stands between a name and its value
colon_more : (s t : List ℕ) → Grown t (colon s) (colon (s ++ t))
colon_more [] t = tt
colon_more (c ∷ s) t =
    grown_if t (c == 58) stop _ stop _ refl
    (grown_if t (is_blank c) (skip s) _ (skip (s ++ t)) _ refl
    (grown_if t (c == 47) _ wrong _ wrong (star_more s t) tt))

tail_colon : (v t : List ℕ) → colon v ≡ stop → tail (v ++ t) ≡ tail v ++ t
tail_colon [] t e = cc
tail_colon (c ∷ v) t e = refl

colons_more : {s u : List ℕ} → Colon s u → (t : List ℕ) → Colon (s ++ t) (u ++ t)
colons_more (meets s e) t =
    let P : ValueStep → Type 0 = λ z. Grown t z (colon (s ++ t)) in
    let Q : List ℕ → Type 0 = λ z. Colon (s ++ t) z in
    subst Q (tail_colon s t e) (meets (s ++ t) (subst P e (colon_more s t)))
colons_more (misses s r u e x) t =
    let P : ValueStep → Type 0 = λ z. Grown t z (colon (s ++ t)) in misses (s ++ t) (r ++ t) (u ++ t) (subst P e (colon_more s t)) (colons_more x t)

-- a block
abbrev GrownTurn : List ℕ → Turn → Turn → Type 0
GrownTurn t over z = ⊥
GrownTurn t (pass r) z = z ≡ pass (r ++ t)
GrownTurn t (names n r) z = z ≡ names n (r ++ t)
GrownTurn t other z = Unit {0}

turn_if : (t : List ℕ) (b : Bool) (x y v w : Turn) → GrownTurn t x v → GrownTurn t y w → GrownTurn t (if b then x else y) (if b then v else w)
turn_if t true x y v w h i = h
turn_if t false x y v w h i = i

passed_more : (t : List ℕ) (x y : Option (List ℕ)) → Grown t (skipped x) (skipped y) → GrownTurn t (comment_turn x) (comment_turn y)
passed_more t None y h = tt
passed_more t (Some r) None h = cc
passed_more t (Some r) (Some q) h = let same : q ≡ r ++ t = cc in ap pass same

named_more : (x t r : List ℕ) → behind_run in_name x ≡ r
    → GrownTurn t (name_turn (first_run in_name x) r) (name_turn (first_run in_name (x ++ t)) (behind_run in_name (x ++ t)))
named_more x t [] e = tt
named_more x t (d ∷ u) e =
    let (a, b) = rest-more in_name x t d u e in
    rw (a, b) (turn_if t (is_some (first_run in_name x)) (names (45 ∷ 45 ∷ first_run in_name x) (d ∷ u)) other (names (45 ∷ 45 ∷ first_run in_name x) (d ∷ (u ++ t))) other refl tt)

dashed_more : (s t : List ℕ) → GrownTurn t (dashed s) (dashed (s ++ t))
dashed_more [] t = tt
dashed_more (d ∷ x) t = turn_if t (d == 45) _ other _ other (named_more x t (behind_run in_name x) refl) tt

turn_more : (c : ℕ) (s t : List ℕ) → GrownTurn t (turn (c ∷ s)) (turn (c ∷ (s ++ t)))
turn_more c s t =
    turn_if t (is_blank c) (pass s) _ (pass (s ++ t)) _ refl
    (turn_if t (c == 47) _ _ _ _ (passed_more t (skip_star s) (skip_star (s ++ t)) (star_more s t))
    (turn_if t (c == 45) (dashed s) other (dashed (s ++ t)) other (dashed_more s t) tt))

over_more : (s t : List ℕ) (es : List Declared) → turn s ≡ over → Block t es → Block (s ++ t) es
over_more [] t es e b = b
over_more (c ∷ s) t es e b = let P : Turn → Type 0 = λ z. GrownTurn t z (turn (c ∷ (s ++ t))) in absurd (subst P e (turn_more c s t))

pass_more : (s t r : List ℕ) → turn s ≡ pass r → turn (s ++ t) ≡ pass (r ++ t)
pass_more [] t r e = cc
pass_more (c ∷ s) t r e = let P : Turn → Type 0 = λ z. GrownTurn t z (turn (c ∷ (s ++ t))) in subst P e (turn_more c s t)

names_more : (s t n r : List ℕ) → turn s ≡ names n r → turn (s ++ t) ≡ names n (r ++ t)
names_more [] t n r e = cc
names_more (c ∷ s) t n r e = let P : Turn → Type 0 = λ z. GrownTurn t z (turn (c ∷ (s ++ t))) in subst P e (turn_more c s t)

pub joined : {s : List ℕ} {ds : List Declared} → Block s ds → {t : List ℕ} {es : List Declared} → Block t es → Block (s ++ t) (ds ++ es)
joined (ended s e) {t} {es} b = over_more s t es e b
joined (passes s r ds e x) {t} {es} b = passes (s ++ t) (r ++ t) (ds ++ es) (pass_more s t r e) (joined x b)
joined (declared s n r u v ps ds e k x c y) {t} {es} b =
    let P : List ℕ → Type 0 = λ z. Block z (ds ++ es) in
    declared (s ++ t) n (r ++ t) (u ++ t) (v ++ t) ps (ds ++ es) (names_more s t n r e) (colons_more k t) (pieces_more x t) c
    (subst P (sym (tail_more v t (stops_there x))) (joined y b))
