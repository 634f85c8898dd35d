-- What lines declare is what the reading of style sheets gives, name for name and value for value.
use Rattle.std.proofs.Common.{◌≡◌, ℕ, Bool, true, false, not, ◌==◌, ◌&&◌, List, [], ◌∷◌, ◌++◌, map, codes, refl, sym, ◌∙◌, ap, subst, Option, Some, None, inl, inr, arith, append_assoc}
use Rattle.std.specs.Prelude.{if◌then◌else◌}
use Rattle.std.specs.List.{AllZip, list_all}
use Rattle.std.specs.Option.{option_or}
use Rattle.std.specs.Str.{bytes_eq}
use Rattle.std.proofs.lemmas.Bool.Decides.{nat_tests}
use Rattle.dec_fix.proofs.Again.{both}
use Rattle.ring.specs.Lists.{In, AreApart}
use Rattle.transforms.proofs.RunsAreFirst.{first_run-append, behind_run-append}
use Rattle.css_out.specs.Piece.{Piece}
use Rattle.css_out.specs.Reading.{in_name, is_some, is_blank, after_comment, stop, skip, step, Pieces, stops, skips, takes, are_closed, colon, Colon, meets, misses, Declared, Turn, over, pass, names, other, comment_turn, turn, tail, Block, ended, passes, declared}
use Rattle.css_out.specs.Laws.{BlocksJoin}
use Rattle.css_out.specs.Rounds.{declared_for}
use Rattle.css_out.specs.Spelling.{omitted_text}
use Rattle.theme_css.specs.Cascade.{Declaration, value_in}
use Rattle.theme_css.specs.Denoting.{HasPieces, ReadsAs}
use Rattle.theme_css.specs.Sheet.{IsLine, Lines, no_lines, declares, omits, line_text}
use Rattle.theme_css.proofs.Named.{eq_is}
use Rattle.theme_css.proofs.ValuesEnd.{IsClosed, pieces_end}

-- How a reading went on.

at_end : {t : List ℕ} {es : List Declared} → Block t es → turn t ≡ over → [] ≡ es
at_end (ended t f) e = refl
at_end (passes t s ds f x) e = cc
at_end (declared t n s u v ps ds f k x c b) e = cc

at_pass : {t : List ℕ} {es : List Declared} → Block t es → (r : List ℕ) → turn t ≡ pass r → Block r es
at_pass (ended t f) r e = cc
at_pass (passes t s ds f x) r e = let same : s ≡ r = cc in let P : List ℕ → Type 0 = λ z. Block z ds in subst P same x
at_pass (declared t n s u v ps ds f k x c b) r e = cc

no_block : {t : List ℕ} {es : List Declared} → Block t es → turn t ≡ other → ⊥
no_block (ended t f) e = cc
no_block (passes t s ds f x) e = cc
no_block (declared t n s u v ps ds f k x c b) e = cc

-- a declaration at the start of a text, and the declarations behind it
record Begins (name t : List ℕ) (es : List Declared) : Type 0 where
  pieces : List Piece
  more : List Declared
  start : List ℕ
  end : List ℕ
  whole : es ≡ record { name = name; pieces = pieces } ∷ more
  between : Colon t start
  read : Pieces start pieces end
  closed : are_closed 0 pieces ≡ true
  behind : Block (tail end) more

at_name : {t : List ℕ} {es : List Declared} → Block t es → (m r : List ℕ) → turn t ≡ names m r → Begins m r es
at_name (ended t f) m r e = cc
at_name (passes t s ds f x) m r e = cc
at_name (declared t n s u v ps ds f k x c b) m r e =
    let same : s ≡ r = cc in let one : n ≡ m = cc in let P : List ℕ → Type 0 = λ z. Colon z u in record {
      pieces = ps;
      more = ds;
      start = u;
      end = v;
      whole = ap (λ (z : List ℕ). record { name = z; pieces = ps } ∷ ds) one;
      between = subst P same k;
      read = x;
      closed = c;
      behind = b;
    }

behind_colon : {t u : List ℕ} → Colon t u → colon t ≡ stop → tail t ≡ u
behind_colon (meets t f) e = refl
behind_colon (misses t s u f x) e = cc

after_skip : {t : List ℕ} {qs : List Piece} {v : List ℕ} → Pieces t qs v → (r : List ℕ) → step t ≡ skip r → Pieces r qs v
after_skip (stops t f) r e = cc
after_skip (skips t s ps u f x) r e = let same : s ≡ r = cc in let P : List ℕ → Type 0 = λ z. Pieces z ps u in subst P same x
after_skip (takes t s p ps u f x) r e = cc

-- Names.

-- a name of a property: `--`, and something behind it
abbrev is_custom : List ℕ → Bool
is_custom [] = false
is_custom (c ∷ []) = false
is_custom (c ∷ d ∷ n) = (c == 45) && ((d == 45) && is_some n)

abbrev turn_at : Bool → Bool → Bool → List ℕ → List ℕ → Turn
turn_at a b e n r = if a then (if b then (if e then names n r else other) else other) else other

custom_turn : (a b e : Bool) (n r : List ℕ) → turn_at a b e n r ≡ (if a && (b && e) then names n r else other)
custom_turn true true true n r = refl
custom_turn true true false n r = refl
custom_turn true false e n r = refl
custom_turn false b e n r = refl

named_by : (a b : Bool) (c d : ℕ) (n r : List ℕ) → (c == 45) ≡ a → (d == 45) ≡ b
    → turn_at a b (is_some n) (45 ∷ 45 ∷ n) r ≡ turn_at a b (is_some n) (c ∷ d ∷ n) r
named_by true true c d n r h i =
    let one : c ≡ 45 = grind (arith, nat_tests, h) in let two : d ≡ 45 = grind (arith, nat_tests, i) in
    ap (λ (m : List ℕ). turn_at true true (is_some n) m r) (sym (ap (λ (x : ℕ). x ∷ d ∷ n) one ∙ ap (λ (x : ℕ). 45 ∷ x ∷ n) two))
named_by true false c d n r h i = refl
named_by false b c d n r h i = refl

-- what stands at the start of a line, behind its blanks, is its name or nothing that is read
line_turn : (n r : List ℕ) → list_all in_name n ≡ true → turn (n ++ 58 ∷ r) ≡ (if is_custom n then names n (58 ∷ r) else other)
line_turn [] r h = refl
line_turn (c ∷ []) r h =
    let l = both (in_name c) true h in
    let a : is_blank c ≡ false = grind (arith, l.0, nat_tests) in
    let b : (c == 47) ≡ false = grind (arith, l.0) in
    rw (a, b) (none (c == 45))
  where
    none : (b : Bool) → (if b then other else other) ≡ other
    none true = refl
    none false = refl
line_turn (c ∷ d ∷ n) r h =
    let l = both (in_name c) (list_all in_name (d ∷ n)) h in
    let m = both (in_name d) (list_all in_name n) l.1 in
    let a : is_blank c ≡ false = grind (arith, l.0, nat_tests) in
    let b : (c == 47) ≡ false = grind (arith, l.0) in
    rw (a, b, first_run-append in_name n (58 ∷ r) m.1 refl, behind_run-append in_name n (58 ∷ r) m.1 refl)
    (named_by (c == 45) (d == 45) c d n (58 ∷ r) refl refl ∙ custom_turn (c == 45) (d == 45) (is_some n) (c ∷ d ∷ n) (58 ∷ r))

-- Lines.

pub line_apart : (n v t : List ℕ) → line_text (record { name = n; value = v }) ++ t ≡ 32 ∷ 32 ∷ (n ++ 58 ∷ 32 ∷ (v ++ 59 ∷ 10 ∷ t))
line_apart n v t = rw (append_assoc n (58 ∷ 32 ∷ (v ++ 59 ∷ 10 ∷ [])) t, append_assoc v (59 ∷ 10 ∷ []) t) refl

-- a line, and the declarations behind it
record LineIs (n v t : List ℕ) (es : List Declared) : Type 0 where
  pieces : List Piece
  more : List Declared
  whole : es ≡ record { name = n; pieces = pieces } ∷ more
  has : HasPieces n v pieces
  behind : Block t more

one_line : (n v : List ℕ) (ps : List Piece) → turn (n ++ 58 ∷ 32 ∷ (v ++ 59 ∷ 10 ∷ [])) ≡ names n (58 ∷ 32 ∷ (v ++ 59 ∷ 10 ∷ [])) → Pieces (v ++ 59 ∷ 10 ∷ []) ps (59 ∷ 10 ∷ []) → are_closed 0 ps ≡ true → HasPieces n v ps
one_line n v ps named read closed =
    let value = 32 ∷ (v ++ 59 ∷ 10 ∷ []) in
    let ds : List Declared = record { name = n; pieces = ps } ∷ [] in
    passes (32 ∷ 32 ∷ (n ++ 58 ∷ value)) (32 ∷ (n ++ 58 ∷ value)) ds refl
    (passes (32 ∷ (n ++ 58 ∷ value)) (n ++ 58 ∷ value) ds refl
    (declared (n ++ 58 ∷ value) n (58 ∷ value) value (59 ∷ 10 ∷ []) ps [] named (meets (58 ∷ value) refl) (skips value (v ++ 59 ∷ 10 ∷ []) ps (59 ∷ 10 ∷ []) refl read) closed
    (passes (10 ∷ []) [] [] refl (ended [] refl))))

named_line : (custom : Bool) (n v t : List ℕ) (es : List Declared) → is_custom n ≡ custom → list_all in_name n ≡ true → IsClosed v → Block (n ++ 58 ∷ 32 ∷ (v ++ 59 ∷ 10 ∷ t)) es → LineIs n v t es
named_line false n v t es e h closed b =
    let is : turn (n ++ 58 ∷ 32 ∷ (v ++ 59 ∷ 10 ∷ t)) ≡ other = line_turn n (32 ∷ (v ++ 59 ∷ 10 ∷ t)) h ∙ ap (λ (z : Bool). if z then names n (58 ∷ 32 ∷ (v ++ 59 ∷ 10 ∷ t)) else other) e in
    absurd (no_block b is)
named_line true n v t es e h closed b =
    let value = 32 ∷ (v ++ 59 ∷ 10 ∷ t) in
    let alone = 32 ∷ (v ++ 59 ∷ 10 ∷ []) in
    let is : turn (n ++ 58 ∷ value) ≡ names n (58 ∷ value) = line_turn n value h ∙ ap (λ (z : Bool). if z then names n (58 ∷ value) else other) e in
    let here : turn (n ++ 58 ∷ alone) ≡ names n (58 ∷ alone) = line_turn n alone h ∙ ap (λ (z : Bool). if z then names n (58 ∷ alone) else other) e in
    let d = at_name b n (58 ∷ value) is in
    let P : List ℕ → Type 0 = λ z. Pieces z d.pieces d.end in
    let start : value ≡ d.start = behind_colon d.between refl in
    let read : Pieces (v ++ 59 ∷ 10 ∷ t) d.pieces d.end = after_skip (subst P (sym start) d.read) (v ++ 59 ∷ 10 ∷ t) refl in
    let last = pieces_end (10 ∷ t) (10 ∷ []) read v refl closed in
    let Q : List ℕ → Type 0 = λ z. Block (tail z) d.more in
    record {
      pieces = d.pieces;
      more = d.more;
      whole = d.whole;
      has = one_line n v d.pieces here last.1 d.closed;
      behind = at_pass (subst Q last.0 d.behind) t refl;
    }

line_is : (d : Declaration) (t : List ℕ) (es : List Declared) → IsLine d → Block (line_text d ++ t) es → LineIs d.name d.value t es
line_is d t es line b =
    let P : List ℕ → Type 0 = λ z. Block z es in
    let apart : Block (32 ∷ 32 ∷ (d.name ++ 58 ∷ 32 ∷ (d.value ++ 59 ∷ 10 ∷ t))) es = subst P (line_apart d.name d.value t) b in
    named_line (is_custom d.name) d.name d.value t es refl line.name line.value.closed
    (at_pass (at_pass apart (32 ∷ (d.name ++ 58 ∷ 32 ∷ (d.value ++ 59 ∷ 10 ∷ t))) refl) (d.name ++ 58 ∷ 32 ∷ (d.value ++ 59 ∷ 10 ∷ t)) refl)

-- Comments.

abbrev no_star : ℕ → Bool
no_star c = not (c == 42)

past_stars : (s t : List ℕ) → list_all no_star s ≡ true → after_comment (s ++ 42 ∷ 47 ∷ t) ≡ Some t
past_stars [] t h = refl
past_stars (c ∷ []) t h = let l = both (no_star c) true h in let a : (c == 42) ≡ false = grind (arith, l.0) in rw a refl
past_stars (c ∷ d ∷ s) t h = let l = both (no_star c) (list_all no_star (d ∷ s)) h in let a : (c == 42) ≡ false = grind (arith, l.0) in rw a (past_stars (d ∷ s) t l.1)

named_no_star : (n : List ℕ) → list_all in_name n ≡ true → list_all no_star (n ++ 32 ∷ []) ≡ true
named_no_star [] h = refl
named_no_star (c ∷ n) h = let l = both (in_name c) (list_all in_name n) h in let a : no_star c ≡ true = grind (arith, l.0) in rw a (named_no_star n l.1)

pub omitted_apart : (n t : List ℕ) → omitted_text n ++ t ≡ 32 ∷ 32 ∷ 47 ∷ 42 ∷ 32 ∷ (codes "omitted " ++ (n ++ 32 ∷ 42 ∷ 47 ∷ 10 ∷ t))
omitted_apart n t = rw (append_assoc n (32 ∷ 42 ∷ 47 ∷ 10 ∷ []) t) refl

omitted_turn : (n t : List ℕ) → list_all in_name n ≡ true → turn (47 ∷ 42 ∷ 32 ∷ (codes "omitted " ++ (n ++ 32 ∷ 42 ∷ 47 ∷ 10 ∷ t))) ≡ pass (10 ∷ t)
omitted_turn n t h =
    let P : List ℕ → Type 0 = λ s. after_comment (32 ∷ (codes "omitted " ++ s)) ≡ Some (10 ∷ t) in
    let past : after_comment (32 ∷ (codes "omitted " ++ (n ++ 32 ∷ 42 ∷ 47 ∷ 10 ∷ t))) ≡ Some (10 ∷ t) =
    subst P (append_assoc n (32 ∷ []) (42 ∷ 47 ∷ 10 ∷ t)) (past_stars (32 ∷ (codes "omitted " ++ (n ++ 32 ∷ []))) (10 ∷ t) (named_no_star n h)) in
    ap comment_turn past

omitted_is : (n t : List ℕ) (es : List Declared) → list_all in_name n ≡ true → Block (omitted_text n ++ t) es → Block t es
omitted_is n t es h b =
    let P : List ℕ → Type 0 = λ z. Block z es in
    let text = 47 ∷ 42 ∷ 32 ∷ (codes "omitted " ++ (n ++ 32 ∷ 42 ∷ 47 ∷ 10 ∷ t)) in
    let apart : Block (32 ∷ 32 ∷ text) es = subst P (omitted_apart n t) b in
    at_pass (at_pass (at_pass (at_pass apart (32 ∷ text) refl) text refl) (10 ∷ t) (omitted_turn n t h)) t refl

omitted_reads : (n t : List ℕ) (es : List Declared) → list_all in_name n ≡ true → Block t es → Block (omitted_text n ++ t) es
omitted_reads n t es h b =
    let P : List ℕ → Type 0 = λ z. Block z es in
    let text = 47 ∷ 42 ∷ 32 ∷ (codes "omitted " ++ (n ++ 32 ∷ 42 ∷ 47 ∷ 10 ∷ t)) in
    subst P (sym (omitted_apart n t))
    (passes (32 ∷ 32 ∷ text) (32 ∷ text) es refl (passes (32 ∷ text) text es refl (passes text (10 ∷ t) es (omitted_turn n t h) (passes (10 ∷ t) t es refl b))))

-- What lines declare, declaration by declaration.

pub record IsLineOf (l : Declaration) (d : Declared) : Type 0 where
  pub name : d.name ≡ l.name
  pub has : HasPieces l.name l.value d.pieces

pub lines_of_block : {t : List ℕ} {ls : List Declaration} → Lines t ls → (ds : List Declared) → Block t ds → AllZip IsLineOf ls ds
lines_of_block no_lines ds b =
    let P : List Declared → Type 0 = λ es. AllZip IsLineOf [] es in subst P (at_end b refl) tt
lines_of_block (declares d rest ls line lines) ds b =
    let l = line_is d rest ds line b in
    let P : List Declared → Type 0 = λ es. AllZip IsLineOf (d ∷ ls) es in
    subst P (sym l.whole) (record { name = refl; has = l.has }, lines_of_block lines l.more l.behind)
lines_of_block (omits name rest ls named lines) ds b = lines_of_block lines ds (omitted_is name rest ds named b)

pub block_of_lines : BlocksJoin → {t : List ℕ} {ls : List Declaration} → Lines t ls → (ds : List Declared) → AllZip IsLineOf ls ds → Block t ds
block_of_lines join no_lines [] are = ended [] refl
block_of_lines join no_lines (d ∷ ds) are = absurd are
block_of_lines join (declares l rest ls line lines) [] are = absurd are
block_of_lines join (declares l rest ls line lines) (d ∷ ds) are =
    let one : List ℕ → List Declared = λ n. record { name = n; pieces = d.pieces } ∷ [] in
    let P : List ℕ → Type 0 = λ n. Block (line_text l ++ rest) (record { name = n; pieces = d.pieces } ∷ ds) in
    subst P (sym are.0.name) (join (line_text l) rest (one l.name) ds are.0.has (block_of_lines join lines ds are.1))
block_of_lines join (omits name rest ls named lines) ds are = omitted_reads name rest ds named (block_of_lines join lines ds are)

-- The value of a name.

abbrev pub names_of : List Declaration → List (List ℕ)
names_of ls = map (λ l. l.name) ls

pub not_there : (ls : List Declaration) (n : List ℕ) → (In n (names_of ls) → ⊥) → value_in ls n ≡ None
not_there [] n absent = refl
not_there (l ∷ ls) n absent = go (bytes_eq l.name n) refl (not_there ls n (λ i. absent (inr i)))
  where
    go : (b : Bool) → bytes_eq l.name n ≡ b → value_in ls n ≡ None → option_or (value_in ls n) (if b then Some l.value else None) ≡ None
    go true e h = absurd (absent (inl (sym (eq_is l.name n e))))
    go false e h = ap (λ (o : Option (List ℕ)). option_or o None) h

none_or : (o : Option (List ℕ)) → option_or o None ≡ o
none_or None = refl
none_or (Some v) = refl

pub value_reads : (ls : List Declaration) (ds : List Declared) (n : List ℕ) → AllZip IsLineOf ls ds → AreApart (names_of ls) → ReadsAs n (value_in ls n) (declared_for ds n)
value_reads [] [] n are apart = tt
value_reads [] (d ∷ ds) n are apart = absurd are
value_reads (l ∷ ls) [] n are apart = absurd are
value_reads (l ∷ ls) (d ∷ ds) n are apart =
    let D : List ℕ → Type 0 = λ m. ReadsAs n (value_in (l ∷ ls) n) (if bytes_eq m n then Some d.pieces else declared_for ds n) in
    subst D (sym are.0.name) (go (bytes_eq l.name n) refl (value_reads ls ds n are.1 apart.1))
  where
    here : l.name ≡ n → ReadsAs n (option_or (value_in ls n) (Some l.value)) (Some d.pieces)
    here e =
        let none : value_in ls n ≡ None = not_there ls n (λ i. apart.0 (subst (λ (m : List ℕ). In m (names_of ls)) (sym e) i)) in
        subst (λ (o : Option (List ℕ)). ReadsAs n (option_or o (Some l.value)) (Some d.pieces)) (sym none)
        (subst (λ (m : List ℕ). HasPieces m l.value d.pieces) e are.0.has)

    go : (b : Bool) → bytes_eq l.name n ≡ b → ReadsAs n (value_in ls n) (declared_for ds n)
        → ReadsAs n (option_or (value_in ls n) (if b then Some l.value else None)) (if b then Some d.pieces else declared_for ds n)
    go true e h = here (eq_is l.name n e)
    go false e h = subst (λ (o : Option (List ℕ)). ReadsAs n o (declared_for ds n)) (sym (none_or (value_in ls n))) h
