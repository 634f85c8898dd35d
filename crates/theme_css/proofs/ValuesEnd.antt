-- The pieces of a value end at its `;`, whatever stands behind that.
use Rattle.std.proofs.Common.{◌≡◌, ℕ, Bool, true, false, ◌==◌, ◌&&◌, List, [], ◌∷◌, ◌++◌, length, nat_lt, refl, sym, ◌∙◌, ap, subst, Option, Some, None, arith}
use Rattle.std.specs.Prelude.{fold, if◌then◌else◌}
use Rattle.std.specs.Char.{is_ascii_alphabetic, is_ascii_digit}
use Rattle.std.proofs.lemmas.Bool.Decides.{nat_tests}
use Rattle.dec_fix.proofs.Again.{both}
use Rattle.dec_fix.specs.Decimal.{Decimal, decimal_of}
use Rattle.dec_fix.specs.Spelling.{digits_number}
use Rattle.dec_fix.specs.Reading.{digits_front, digits_rest}
use Rattle.dec_fix.specs.Following.{fraction_after, unsigned_at}
use Rattle.transforms.specs.Quoted.{string_from, with_first}
use Rattle.transforms.specs.Runs.{first_run, behind_run, starts_digit}
use Rattle.css_out.specs.Piece.{Piece, mark, var, number, percent, unit, string, word, opens, closes, comma, slash}
use Rattle.css_out.specs.Reading.{in_word, in_name, is_some, closed_name, var_at, is_var, worded, string_piece, measured, number_piece, starts_star, is_blank, skip_star, ValueStep, stop, skip, take, wrong, skipped, taken, step, Pieces, stops, skips, takes}
use Rattle.theme_css.specs.Sheet.{behind_plain, is_plain, next_standing}
use Rattle.theme_css.specs.declared.own.Standing.{Standing}
use Rattle.theme_css.specs.declared.own.Standing.TheVariants.{Plain, Slashed, Quoted, Escaped, Over}

-- Values whose strings are closed, and that hold neither a `;` nor a comment elsewhere.

abbrev pub ClosedFrom : Standing → List ℕ → Type 0
ClosedFrom s v = is_plain (fold next_standing s v) ≡ true

abbrev pub IsClosed : List ℕ → Type 0
IsClosed v = ClosedFrom Plain v

pub never : (v : List ℕ) → ClosedFrom Over v → ⊥
never [] h = cc
never (c ∷ v) h = never v h

unless_star : (b : Bool) (c : ℕ) (v : List ℕ) → ClosedFrom (if b then Over else behind_plain c) v → ClosedFrom (behind_plain c) v
unless_star true c v h = absurd (never v h)
unless_star false c v h = h

from_slashed : (v : List ℕ) → ClosedFrom Slashed v → IsClosed v
from_slashed [] h = refl
from_slashed (c ∷ v) h = unless_star (c == 42) c v h

no_end : (b d e : Bool) (v : List ℕ) → ClosedFrom (if b then Over else (if d then Quoted else (if e then Slashed else Plain))) v → b ≡ false
no_end true d e v h = absurd (never v h)
no_end false d e v h = refl

byte_is : (c k : ℕ) → (c == k) ≡ true → c ≡ k
byte_is c k h = grind (arith, nat_tests)

-- a byte that opens nothing
past : (c : ℕ) (v : List ℕ) → behind_plain c ≡ Plain → IsClosed (c ∷ v) → IsClosed v
past c v plain h = subst (λ (s : Standing). ClosedFrom s v) plain h

past_byte : (c k : ℕ) (v : List ℕ) → (c == k) ≡ true → behind_plain k ≡ Plain → IsClosed (c ∷ v) → IsClosed v
past_byte c k v e plain h = past c v (ap behind_plain (byte_is c k e) ∙ plain) h

-- bytes of which none opens anything
record KeepsPlain (p : ℕ → Bool) : Type 0 where
  ends : p 59 ≡ false
  keeps : (c : ℕ) → p c ≡ true → behind_plain c ≡ Plain

opens_nothing : (c : ℕ) → (c == 59) ≡ false → (c == 34) ≡ false → (c == 47) ≡ false → behind_plain c ≡ Plain
opens_nothing c h i j = rw (h, i, j) refl

digits_keep : KeepsPlain is_ascii_digit
digits_keep = record {
  ends = refl;
  keeps = λ c h. opens_nothing c (grind (arith, h)) (grind (arith, h)) (grind (arith, h));
}

letters_keep : KeepsPlain is_ascii_alphabetic
letters_keep = record {
  ends = refl;
  keeps = λ c h. opens_nothing c (grind (arith, h)) (grind (arith, h)) (grind (arith, h));
}

words_keep : KeepsPlain in_word
words_keep = record {
  ends = refl;
  keeps = λ c h. opens_nothing c (grind (arith, h)) (grind (arith, h)) (grind (arith, h));
}

names_keep : KeepsPlain in_name
names_keep = record {
  ends = refl;
  keeps = λ c h. opens_nothing c (grind (arith, h)) (grind (arith, h)) (grind (arith, h));
}

-- Runs of bytes.

behind_by : (b : Bool) (c : ℕ) (x y z r : List ℕ) → x ≡ y ++ 59 ∷ r → (if b then x else c ∷ (z ++ 59 ∷ r)) ≡ (if b then y else c ∷ z) ++ 59 ∷ r
behind_by true c x y z r e = e
behind_by false c x y z r e = refl

closed_by : (b : Bool) (c : ℕ) (x v : List ℕ) → (b ≡ true → IsClosed x) → IsClosed (c ∷ v) → IsClosed (if b then x else c ∷ v)
closed_by true c x v h i = h refl
closed_by false c x v h i = i

module _ (p : ℕ → Bool) (keeps : KeepsPlain p) where
  front_there : (v r : List ℕ) → first_run p (v ++ 59 ∷ r) ≡ first_run p v
  front_there [] r = rw (keeps.ends) refl
  front_there (c ∷ v) r = ap (λ (x : List ℕ). if p c then c ∷ x else []) (front_there v r)

  behind_there : (v r : List ℕ) → behind_run p (v ++ 59 ∷ r) ≡ behind_run p v ++ 59 ∷ r
  behind_there [] r = rw (keeps.ends) refl
  behind_there (c ∷ v) r = behind_by (p c) c (behind_run p (v ++ 59 ∷ r)) (behind_run p v) v r (behind_there v r)

  behind_closed : (v : List ℕ) → IsClosed v → IsClosed (behind_run p v)
  behind_closed [] h = h
  behind_closed (c ∷ v) h = closed_by (p c) c (behind_run p v) v (λ e. behind_closed v (past c v (keeps.keeps c e) h)) h

digits_front_is : (v : List ℕ) → digits_front v ≡ first_run is_ascii_digit v
digits_front_is [] = refl
digits_front_is (c ∷ v) = ap (λ (x : List ℕ). if is_ascii_digit c then c ∷ x else []) (digits_front_is v)

digits_rest_is : (v : List ℕ) → digits_rest v ≡ behind_run is_ascii_digit v
digits_rest_is [] = refl
digits_rest_is (c ∷ v) = ap (λ (x : List ℕ). if is_ascii_digit c then x else c ∷ v) (digits_rest_is v)

digits_there : (v r : List ℕ) → digits_front (v ++ 59 ∷ r) ≡ digits_front v
digits_there v r = digits_front_is (v ++ 59 ∷ r) ∙ (front_there is_ascii_digit digits_keep v r ∙ sym (digits_front_is v))

rest_there : (v r : List ℕ) → digits_rest (v ++ 59 ∷ r) ≡ digits_rest v ++ 59 ∷ r
rest_there v r = digits_rest_is (v ++ 59 ∷ r) ∙ (behind_there is_ascii_digit digits_keep v r ∙ ap (λ (x : List ℕ). x ++ 59 ∷ r) (sym (digits_rest_is v)))

rest_closed : (v : List ℕ) → IsClosed v → IsClosed (digits_rest v)
rest_closed v h = subst IsClosed (sym (digits_rest_is v)) (behind_closed is_ascii_digit digits_keep v h)

star_there : (v r : List ℕ) → starts_star (v ++ 59 ∷ r) ≡ starts_star v
star_there [] r = refl
star_there (c ∷ v) r = refl

digit_there : (v r : List ℕ) → starts_digit (v ++ 59 ∷ r) ≡ starts_digit v
digit_there [] r = refl
digit_there (c ∷ v) r = refl

-- a comment begins nowhere
no_comment : (c : ℕ) (v : List ℕ) → IsClosed (c ∷ v) → (c == 47) && starts_star v ≡ true → ⊥
no_comment c [] h e = let l = both (c == 47) false e in absurd (not_true l.1)
  where
    not_true : false ≡ true → ⊥
    not_true h = cc
no_comment c (d ∷ v) h e =
    let l = both (c == 47) (d == 42) e in
    let P : ℕ → ℕ → Type 0 = λ x y. IsClosed (x ∷ y ∷ v) in
    never v (subst (P 47) (byte_is d 42 l.1) (subst (λ x. P x d) (byte_is c 47 l.0) h))

-- Strings.

abbrev standing_in : Bool → Standing
standing_in true = Escaped
standing_in false = Quoted

module _ (r q : List ℕ) where
  -- a string of which something is read ends before the `;`
  record StringEnds (escaped : Bool) (v : List ℕ) : Type 0 where
    inside : List ℕ
    rest : List ℕ
    here : string_from escaped (v ++ 59 ∷ r) ≡ Some (inside, rest ++ 59 ∷ r)
    there : string_from escaped (v ++ 59 ∷ q) ≡ Some (inside, rest ++ 59 ∷ q)
    closed : IsClosed rest

  abbrev from_byte : Bool → Bool → ℕ → List ℕ → Option (List ℕ × List ℕ)
  from_byte b d c t = if b then Some ([], t) else (if d then string_from true t else with_first c (string_from false t))

  record ByteEnds (b d : Bool) (c : ℕ) (v : List ℕ) : Type 0 where
    inside : List ℕ
    rest : List ℕ
    here : from_byte b d c (v ++ 59 ∷ r) ≡ Some (inside, rest ++ 59 ∷ r)
    there : from_byte b d c (v ++ 59 ∷ q) ≡ Some (inside, rest ++ 59 ∷ q)
    closed : IsClosed rest

  byte_ends : (b d : Bool) (c : ℕ) (v : List ℕ) → (ClosedFrom Escaped v → StringEnds true v) → (ClosedFrom Quoted v → StringEnds false v)
      → ClosedFrom (if b then Plain else (if d then Escaped else Quoted)) v → ByteEnds b d c v
  byte_ends true d c v f g h = record { inside = []; rest = v; here = refl; there = refl; closed = h }
  byte_ends false true c v f g h = let s = f h in record { inside = s.inside; rest = s.rest; here = s.here; there = s.there; closed = s.closed }
  byte_ends false false c v f g h =
      let s = g h in
      record { inside = c ∷ s.inside; rest = s.rest; here = ap (with_first c) s.here; there = ap (with_first c) s.there; closed = s.closed }

  string_ends : (escaped : Bool) (v : List ℕ) → ClosedFrom (standing_in escaped) v → StringEnds escaped v
  string_ends true [] h = cc
  string_ends false [] h = cc
  string_ends true (c ∷ v) h =
      let s = string_ends false v h in
      record { inside = c ∷ s.inside; rest = s.rest; here = ap (with_first c) s.here; there = ap (with_first c) s.there; closed = s.closed }
  string_ends false (c ∷ v) h =
      let s = byte_ends (c == 34) (c == 92) c v (string_ends true v) (string_ends false v) h in
      record { inside = s.inside; rest = s.rest; here = s.here; there = s.there; closed = s.closed }

  -- what is read at the start of a value is read there too where something else stands behind the `;`
  abbrev Near : ValueStep → ValueStep → Type 0
  Near stop z = ⊥
  Near (skip s) z = (w : List ℕ) × (s ≡ w ++ 59 ∷ r) × (z ≡ skip (w ++ 59 ∷ q)) × IsClosed w
  Near (take p s) z = (w : List ℕ) × (s ≡ w ++ 59 ∷ r) × (z ≡ take p (w ++ 59 ∷ q)) × IsClosed w
  Near wrong z = Unit {0}

  near_if : (b : Bool) (x y v w : ValueStep) → (b ≡ true → Near x v) → (b ≡ false → Near y w) → Near (if b then x else y) (if b then v else w)
  near_if true x y v w h i = h refl
  near_if false x y v w h i = i refl

  taken_if : (b : Bool) (x y v w : Option (Piece × List ℕ)) → (b ≡ true → Near (taken x) (taken v)) → (b ≡ false → Near (taken y) (taken w)) → Near (taken (if b then x else y)) (taken (if b then v else w))
  taken_if true x y v w h i = h refl
  taken_if false x y v w h i = i refl

  near_take : (p : Piece) (w : List ℕ) → IsClosed w → Near (taken (Some (p, w ++ 59 ∷ r))) (taken (Some (p, w ++ 59 ∷ q)))
  near_take p w h = (w, refl, refl, h)

  -- names and words
  name_near : (n z : List ℕ) → IsClosed z → Near (taken (closed_name n (z ++ 59 ∷ r))) (taken (closed_name n (z ++ 59 ∷ q)))
  name_near n [] h = tt
  name_near n (e ∷ z) h =
      taken_if ((e == 41) && is_some n) (Some (var (45 ∷ 45 ∷ n), z ++ 59 ∷ r)) None (Some (var (45 ∷ 45 ∷ n), z ++ 59 ∷ q)) None
      (λ k. near_take (var (45 ∷ 45 ∷ n)) z (past_byte e 41 z (both (e == 41) (is_some n) k).0 refl h)) (λ k. tt)

  no_var : (t : List ℕ) → taken (var_at (59 ∷ t)) ≡ wrong
  no_var [] = refl
  no_var (c ∷ t) = refl

  no_second : (b : Bool) (x : Option (Piece × List ℕ)) → taken (if b && false then x else None) ≡ wrong
  no_second true x = refl
  no_second false x = refl

  wrong_near : (s z : ValueStep) → s ≡ wrong → Near s z
  wrong_near s z e = subst (λ (x : ValueStep). Near x z) (sym e) tt

  var_near : (y : List ℕ) → IsClosed y → Near (taken (var_at (y ++ 59 ∷ r))) (taken (var_at (y ++ 59 ∷ q)))
  var_near [] h = wrong_near (taken (var_at (59 ∷ r))) (taken (var_at (59 ∷ q))) (no_var r)
  var_near (c ∷ []) h =
      wrong_near (taken (var_at (c ∷ 59 ∷ r))) (taken (var_at (c ∷ 59 ∷ q))) (no_second (c == 45) (closed_name (first_run in_name r) (behind_run in_name r)))
  var_near (c ∷ d ∷ y) h =
      let N : List ℕ → List ℕ → Option (Piece × List ℕ) = λ n z. closed_name n z in
      taken_if ((c == 45) && (d == 45)) (N (first_run in_name (y ++ 59 ∷ r)) (behind_run in_name (y ++ 59 ∷ r))) None (N (first_run in_name (y ++ 59 ∷ q)) (behind_run in_name (y ++ 59 ∷ q))) None
      (λ k.
      let l = both (c == 45) (d == 45) k in
      let after : IsClosed y = past_byte d 45 y l.1 refl (past_byte c 45 (d ∷ y) l.0 refl h) in
      rw (front_there in_name names_keep y r, front_there in_name names_keep y q, behind_there in_name names_keep y r, behind_there in_name names_keep y q)
      (name_near (first_run in_name y) (behind_run in_name y) (behind_closed in_name names_keep y after)))
      (λ k. tt)

  worded_near : (n y : List ℕ) → IsClosed y → Near (taken (worded n (y ++ 59 ∷ r))) (taken (worded n (y ++ 59 ∷ q)))
  worded_near n [] h = near_take (mark (word n)) [] refl
  worded_near n (d ∷ y) h =
      taken_if (d == 40) (if is_var n then var_at (y ++ 59 ∷ r) else Some (mark (opens n), y ++ 59 ∷ r)) (Some (mark (word n), d ∷ (y ++ 59 ∷ r)))
      (if is_var n then var_at (y ++ 59 ∷ q) else Some (mark (opens n), y ++ 59 ∷ q)) (Some (mark (word n), d ∷ (y ++ 59 ∷ q)))
      (λ k.
      let after : IsClosed y = past_byte d 40 y k refl h in
      taken_if (is_var n) (var_at (y ++ 59 ∷ r)) (Some (mark (opens n), y ++ 59 ∷ r)) (var_at (y ++ 59 ∷ q)) (Some (mark (opens n), y ++ 59 ∷ q)) (λ j. var_near y after) (λ j. near_take (mark (opens n)) y after))
      (λ k. near_take (mark (word n)) (d ∷ y) h)

  word_near : (v : List ℕ) → IsClosed v
      → Near (taken (worded (first_run in_word (v ++ 59 ∷ r)) (behind_run in_word (v ++ 59 ∷ r)))) (taken (worded (first_run in_word (v ++ 59 ∷ q)) (behind_run in_word (v ++ 59 ∷ q))))
  word_near v h =
      rw (front_there in_word words_keep v r, front_there in_word words_keep v q, behind_there in_word words_keep v r, behind_there in_word words_keep v q)
      (worded_near (first_run in_word v) (behind_run in_word v) (behind_closed in_word words_keep v h))

  -- numbers
  unit_near : (n : Decimal) (y : List ℕ) → IsClosed y
      → Near (taken (Some (mark (unit n (first_run is_ascii_alphabetic (y ++ 59 ∷ r))), behind_run is_ascii_alphabetic (y ++ 59 ∷ r))))
      (taken (Some (mark (unit n (first_run is_ascii_alphabetic (y ++ 59 ∷ q))), behind_run is_ascii_alphabetic (y ++ 59 ∷ q))))
  unit_near n y h =
      rw (front_there is_ascii_alphabetic letters_keep y r, front_there is_ascii_alphabetic letters_keep y q, behind_there is_ascii_alphabetic letters_keep y r, behind_there is_ascii_alphabetic letters_keep y q)
      (near_take (mark (unit n (first_run is_ascii_alphabetic y))) (behind_run is_ascii_alphabetic y) (behind_closed is_ascii_alphabetic letters_keep y h))

  measured_near : (n : Decimal) (y : List ℕ) → IsClosed y → Near (taken (measured n (y ++ 59 ∷ r))) (taken (measured n (y ++ 59 ∷ q)))
  measured_near n [] h = near_take (mark (number n)) [] refl
  measured_near n (c ∷ y) h =
      taken_if (c == 37) (Some (mark (percent n), y ++ 59 ∷ r)) _ (Some (mark (percent n), y ++ 59 ∷ q)) _ (λ k. near_take (mark (percent n)) y (past_byte c 37 y k refl h))
      (λ k. taken_if (is_ascii_alphabetic c) _ (Some (mark (number n), c ∷ (y ++ 59 ∷ r))) _ (Some (mark (number n), c ∷ (y ++ 59 ∷ q)))
      (λ j. unit_near n (c ∷ y) h) (λ j. near_take (mark (number n)) (c ∷ y) h))

  numbered_if : (b : Bool) (x y v w : Decimal × List ℕ) → (b ≡ true → Near (taken (number_piece x)) (taken (number_piece v))) → (b ≡ false → Near (taken (number_piece y)) (taken (number_piece w)))
      → Near (taken (number_piece (if b then x else y))) (taken (number_piece (if b then v else w)))
  numbered_if true x y v w h i = h refl
  numbered_if false x y v w h i = i refl

  abbrev pointed : Bool → List ℕ → ℕ → List ℕ → List ℕ → List ℕ → Decimal × List ℕ
  pointed negative whole c ds more t =
      if (c == 46) && nat_lt 0 (length ds) then (decimal_of negative (digits_number (whole ++ ds)) (length ds), more) else (decimal_of negative (digits_number whole) 0, c ∷ t)

  pointed_near : (negative : Bool) (whole : List ℕ) (c : ℕ) (x : List ℕ) → IsClosed (c ∷ x)
      → Near (taken (number_piece (pointed negative whole c (digits_front x) (digits_rest x ++ 59 ∷ r) (x ++ 59 ∷ r))))
      (taken (number_piece (pointed negative whole c (digits_front x) (digits_rest x ++ 59 ∷ q) (x ++ 59 ∷ q))))
  pointed_near negative whole c x h =
      let m = decimal_of negative (digits_number (whole ++ digits_front x)) (length (digits_front x)) in
      let n = decimal_of negative (digits_number whole) 0 in
      numbered_if ((c == 46) && nat_lt 0 (length (digits_front x))) (m, digits_rest x ++ 59 ∷ r) (n, c ∷ (x ++ 59 ∷ r)) (m, digits_rest x ++ 59 ∷ q) (n, c ∷ (x ++ 59 ∷ q))
      (λ k. measured_near m (digits_rest x) (rest_closed x (past_byte c 46 x (both (c == 46) (nat_lt 0 (length (digits_front x))) k).0 refl h)))
      (λ k. measured_near n (c ∷ x) h)

  fraction_near : (negative : Bool) (whole x : List ℕ) → IsClosed x
      → Near (taken (number_piece (fraction_after negative whole (x ++ 59 ∷ r)))) (taken (number_piece (fraction_after negative whole (x ++ 59 ∷ q))))
  fraction_near negative whole [] h = near_take (mark (number (decimal_of negative (digits_number whole) 0))) [] refl
  fraction_near negative whole (c ∷ x) h =
      let F : List ℕ → List ℕ → List ℕ → ValueStep = λ ds more t. taken (number_piece (pointed negative whole c ds more t)) in
      let G : List ℕ → List ℕ → List ℕ → List ℕ → Type 0 = λ ds more es others. Near (F ds more (x ++ 59 ∷ r)) (F es others (x ++ 59 ∷ q)) in
      let a = digits_there x r in let b = rest_there x r in let d = digits_there x q in let e = rest_there x q in
      subst (λ z. G z (digits_rest (x ++ 59 ∷ r)) (digits_front (x ++ 59 ∷ q)) (digits_rest (x ++ 59 ∷ q))) (sym a)
      (subst (λ z. G (digits_front x) z (digits_front (x ++ 59 ∷ q)) (digits_rest (x ++ 59 ∷ q))) (sym b)
      (subst (λ z. G (digits_front x) (digits_rest x ++ 59 ∷ r) z (digits_rest (x ++ 59 ∷ q))) (sym d)
      (subst (λ z. G (digits_front x) (digits_rest x ++ 59 ∷ r) (digits_front x) z) (sym e)
      (pointed_near negative whole c x h))))

  number_near : (negative : Bool) (v : List ℕ) → IsClosed v
      → Near (taken (number_piece (unsigned_at negative (v ++ 59 ∷ r)))) (taken (number_piece (unsigned_at negative (v ++ 59 ∷ q))))
  number_near negative v h =
      let F : List ℕ → List ℕ → ValueStep = λ ds more. taken (number_piece (fraction_after negative ds more)) in
      let G : List ℕ → List ℕ → List ℕ → List ℕ → Type 0 = λ ds more es others. Near (F ds more) (F es others) in
      subst (λ z. G z (digits_rest (v ++ 59 ∷ r)) (digits_front (v ++ 59 ∷ q)) (digits_rest (v ++ 59 ∷ q))) (sym (digits_there v r))
      (subst (λ z. G (digits_front v) z (digits_front (v ++ 59 ∷ q)) (digits_rest (v ++ 59 ∷ q))) (sym (rest_there v r))
      (subst (λ z. G (digits_front v) (digits_rest v ++ 59 ∷ r) z (digits_rest (v ++ 59 ∷ q))) (sym (digits_there v q))
      (subst (λ z. G (digits_front v) (digits_rest v ++ 59 ∷ r) (digits_front v) z) (sym (rest_there v q))
      (fraction_near negative (digits_front v) (digits_rest v) (rest_closed v h)))))

  string_near : (v : List ℕ) → ClosedFrom Quoted v → Near (taken (string_piece (string_from false (v ++ 59 ∷ r)))) (taken (string_piece (string_from false (v ++ 59 ∷ q))))
  string_near v h =
      let s = string_ends false v h in
      let G : Option (List ℕ × List ℕ) → Option (List ℕ × List ℕ) → Type 0 = λ x y. Near (taken (string_piece x)) (taken (string_piece y)) in
      subst (λ x. G x (string_from false (v ++ 59 ∷ q))) (sym s.here) (subst (G (Some (s.inside, s.rest ++ 59 ∷ r))) (sym s.there) (near_take (mark (string s.inside)) s.rest s.closed))

  abbrev piece_by : Bool → ℕ → List ℕ → Option (Piece × List ℕ)
  piece_by digit c t =
      if c == 44 then Some (mark comma, t)
      else (if c == 41 then Some (mark closes, t)
      else (if c == 47 then Some (mark slash, t)
      else (if c == 34 then string_piece (string_from false t)
      else (if is_ascii_digit c then number_piece (unsigned_at false (c ∷ t))
      else (if (c == 45) && digit then number_piece (unsigned_at true t)
      else (if is_ascii_alphabetic c then worded (first_run in_word (c ∷ t)) (behind_run in_word (c ∷ t)) else None))))))

  piece_near : (digit : Bool) (c : ℕ) (v : List ℕ) → IsClosed (c ∷ v) → Near (taken (piece_by digit c (v ++ 59 ∷ r))) (taken (piece_by digit c (v ++ 59 ∷ q)))
  piece_near digit c v h =
      let P : ℕ → Type 0 = λ x. IsClosed (x ∷ v) in
      taken_if (c == 44) (Some (mark comma, v ++ 59 ∷ r)) _ (Some (mark comma, v ++ 59 ∷ q)) _ (λ k. near_take (mark comma) v (past_byte c 44 v k refl h))
      (λ k0. taken_if (c == 41) (Some (mark closes, v ++ 59 ∷ r)) _ (Some (mark closes, v ++ 59 ∷ q)) _ (λ k. near_take (mark closes) v (past_byte c 41 v k refl h))
      (λ k1. taken_if (c == 47) (Some (mark slash, v ++ 59 ∷ r)) _ (Some (mark slash, v ++ 59 ∷ q)) _ (λ k. near_take (mark slash) v (from_slashed v (subst P (byte_is c 47 k) h)))
      (λ k2. taken_if (c == 34) _ _ _ _ (λ k. string_near v (subst P (byte_is c 34 k) h))
      (λ k3. taken_if (is_ascii_digit c) _ _ _ _ (λ k. number_near false (c ∷ v) h)
      (λ k4. taken_if ((c == 45) && digit) _ _ _ _ (λ k. number_near true v (past_byte c 45 v (both (c == 45) digit k).0 refl h))
      (λ k5. taken_if (is_ascii_alphabetic c) _ None _ None (λ k. word_near (c ∷ v) h) (λ k. tt)))))))

  blank_plain : (c : ℕ) → is_blank c ≡ true → behind_plain c ≡ Plain
  blank_plain c h = opens_nothing c (grind (arith, h, nat_tests)) (grind (arith, h, nat_tests)) (grind (arith, h, nat_tests))

  abbrev step_by : Bool → Bool → ℕ → List ℕ → ValueStep
  step_by star digit c t =
      if c == 59 then stop
      else (if is_blank c then skip t
      else (if (c == 47) && star then skipped (skip_star t)
      else taken (piece_by digit c t)))

  near_by : (c : ℕ) (v : List ℕ) → IsClosed (c ∷ v) → Near (step_by (starts_star v) (starts_digit v) c (v ++ 59 ∷ r)) (step_by (starts_star v) (starts_digit v) c (v ++ 59 ∷ q))
  near_by c v h =
      near_if (c == 59) stop _ stop _ (λ k. absurd (ends k))
      (λ k0. near_if (is_blank c) (skip (v ++ 59 ∷ r)) _ (skip (v ++ 59 ∷ q)) _ (λ k. (v, refl, refl, past c v (blank_plain c k) h))
      (λ k1. near_if ((c == 47) && starts_star v) (skipped (skip_star (v ++ 59 ∷ r))) _ (skipped (skip_star (v ++ 59 ∷ q))) _ (λ k. absurd (no_comment c v h k))
      (λ k2. piece_near (starts_digit v) c v h)))
    where
      ends : (c == 59) ≡ true → ⊥
      ends k = let other = no_end (c == 59) (c == 34) (c == 47) v h in cc

  near : (c : ℕ) (v : List ℕ) → IsClosed (c ∷ v) → Near (step (c ∷ (v ++ 59 ∷ r))) (step (c ∷ (v ++ 59 ∷ q)))
  near c v h =
      let G : Bool → Bool → Bool → Bool → Type 0 = λ s d t e. Near (step_by s d c (v ++ 59 ∷ r)) (step_by t e c (v ++ 59 ∷ q)) in
      subst (λ s. G s (starts_digit (v ++ 59 ∷ r)) (starts_star (v ++ 59 ∷ q)) (starts_digit (v ++ 59 ∷ q))) (sym (star_there v r))
      (subst (λ d. G (starts_star v) d (starts_star (v ++ 59 ∷ q)) (starts_digit (v ++ 59 ∷ q))) (sym (digit_there v r))
      (subst (λ t. G (starts_star v) (starts_digit v) t (starts_digit (v ++ 59 ∷ q))) (sym (star_there v q))
      (subst (λ e. G (starts_star v) (starts_digit v) (starts_star v) e) (sym (digit_there v q))
      (near_by c v h))))

  -- the pieces of a value end at its `;`, and are read there whatever stands behind it
  pub pieces_end : {t : List ℕ} {ps : List Piece} {u : List ℕ} → Pieces t ps u → (v : List ℕ) → t ≡ v ++ 59 ∷ r → IsClosed v → (u ≡ 59 ∷ r) × Pieces (v ++ 59 ∷ q) ps (59 ∷ q)
  pieces_end (stops t e) [] is h = (is, stops (59 ∷ q) refl)
  pieces_end (stops t e) (c ∷ v) is h =
      let G : ValueStep → Type 0 = λ z. Near z (step (c ∷ (v ++ 59 ∷ q))) in
      absurd (subst G (ap step (sym is) ∙ e) (near c v h))
  pieces_end (skips t s ps u e x) [] is h = let here : step t ≡ stop = ap step is in cc
  pieces_end (skips t s ps u e x) (c ∷ v) is h =
      let G : ValueStep → Type 0 = λ z. Near z (step (c ∷ (v ++ 59 ∷ q))) in
      let (w, rest, there, closed) = subst G (ap step (sym is) ∙ e) (near c v h) in
      let more = pieces_end x w rest closed in
      (more.0, skips (c ∷ (v ++ 59 ∷ q)) (w ++ 59 ∷ q) ps (59 ∷ q) there more.1)
  pieces_end (takes t s p ps u e x) [] is h = let here : step t ≡ stop = ap step is in cc
  pieces_end (takes t s p ps u e x) (c ∷ v) is h =
      let G : ValueStep → Type 0 = λ z. Near z (step (c ∷ (v ++ 59 ∷ q))) in
      let (w, rest, there, closed) = subst G (ap step (sym is) ∙ e) (near c v h) in
      let more = pieces_end x w rest closed in
      (more.0, takes (c ∷ (v ++ 59 ∷ q)) (w ++ 59 ∷ q) p ps (59 ∷ q) there more.1)
