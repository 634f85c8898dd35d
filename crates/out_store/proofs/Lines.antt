-- Texts cut at newlines, and that a text is the manifest of one list of paths.
use Rattle.std.proofs.Common.{◌≡◌, ◌≢◌, inl, inr, ◌<◌, ℕ, zero, suc, ◌+◌, Bool, true, false, cond, not, ◌&&◌, ◌==◌, codes, eqb, nat_lt, List, [], ◌∷◌, ◌++◌, length, take, drop, map as map_list, Option, Some, None, Ordering, Less, Equal, Greater, refl, sym, ap, subst, ◌∙◌, arith, append_assoc, append-nil, eqb-true}
use Rattle.std.proofs.lemmas.Bool.Decides.{nat_tests}
use Rattle.std.proofs.lemmas.List.Folds.{list_all-append}
use Rattle.std.proofs.lemmas.List.{map-append}
use Rattle.std.specs.Ordering.{is_lt}
use Rattle.std.specs.String.{string_bytes}
use Rattle.std.specs.declared.string.String.{String}
use Rattle.std.proofs.lemmas.Str.{IsUtf8-append, IsUtf8-from_ascii, IsUtf8-nil}
use Rattle.std.specs.Borrow.{Bor}
use Rattle.std.specs.List.{AllByRecursion, list_all, position_or_len, before_first, after_first}
use Rattle.std.specs.Option.{MatchOption}
use Rattle.std.specs.Str.{IsUtf8, IsAscii}
use Rattle.tk_io.specs.Characters.{newline}
use Rattle.tk_io.specs.Order.{text_cmp}
use Rattle.out_store.specs.Manifest.{IsListFrom, IsManifest, Rises, manifest_text, path_line}
use Rattle.out_store.specs.Paths.{IsFileOf, IsOutputPath, is_name_byte}
use Rattle.out_store.specs.inner.Lines.{IsFirstCut, lacks}

pub both : (a b : Bool) → (a && b) ≡ true → (a ≡ true) × (b ≡ true)
both true b e = (refl, e)
both false b e = (e, absurd (cc))

joined : (a b : Bool) → a ≡ true → b ≡ true → (a && b) ≡ true
joined true b p q = q
joined false b p q = p

-- What a search for a byte finds.

lacks-all : (c : ℕ) (bs : List ℕ) → position_or_len (λ b. eqb b c) bs ≡ length bs → lacks c bs ≡ true
lacks-all c [] h = refl
lacks-all c (b ∷ bs) h =
    elim (eqb b c) as (λ t. cond (not t) (1 + position_or_len (λ x. eqb x c) bs) 0 ≡ suc (length bs) → (not t && lacks c bs) ≡ true) [
      | true ↦ λ e. absurd (omega arith)
      | false ↦ λ e. lacks-all c bs (omega arith)
    ] h

front_lacks : (c : ℕ) (bs : List ℕ) (k : ℕ) → position_or_len (λ b. eqb b c) bs ≡ k → k < length bs → (lacks c (take k bs) ≡ true) × (bs ≡ take k bs ++ c ∷ drop (suc k) bs)
front_lacks c [] k e h = absurd (omega arith)
front_lacks c (b ∷ bs) zero e h =
    elim (eqb b c) as (λ t. eqb b c ≡ t → cond (not t) (1 + position_or_len (λ x. eqb x c) bs) 0 ≡ zero → (true ≡ true) × (b ∷ bs ≡ c ∷ bs)) [
      | true ↦ λ t e. (refl, ap (λ x. x ∷ bs) (eqb-true b c t))
      | false ↦ λ t e. absurd (omega arith)
    ] refl e
front_lacks c (b ∷ bs) (suc k) e h =
    elim (eqb b c) as (λ t. cond (not t) (1 + position_or_len (λ x. eqb x c) bs) 0 ≡ suc k → ((not t && lacks c (take k bs)) ≡ true) × (b ∷ bs ≡ b ∷ (take k bs ++ c ∷ drop (suc k) bs))) [
      | true ↦ λ e. absurd (omega arith)
      | false ↦ λ e. let (p, q) = front_lacks c bs k (omega arith) (omega arith) in (p, ap (λ l. b ∷ l) q)
    ] e

pub cut_found : (c : ℕ) (bs : List ℕ) (r : Option (Bor (List ℕ) × Bor (List ℕ))) → MatchOption r (position_or_len (λ b. eqb b c) bs ≡ length bs) (λ x. (x.0.now ≡ before_first (λ b. eqb b c) bs) × (x.1.now ≡ after_first (λ b. eqb b c) bs) × (position_or_len (λ b. eqb b c) bs < length bs))
    → MatchOption r (lacks c bs ≡ true) (λ p. IsFirstCut c bs p.0.now p.1.now)
cut_found c bs None h = lacks-all c bs h
cut_found c bs (Some p) h =
    let k = position_or_len (λ b. eqb b c) bs in
    let (front, split) = front_lacks c bs k refl h.2 in
    let next : suc k ≡ k + 1 = omega arith in
    (ap (lacks c) h.0 ∙ front, split ∙ (ap (λ l. l ++ c ∷ drop (suc k) bs) (sym h.0) ∙ ap (λ l. p.0.now ++ c ∷ l) (ap (λ n. drop n bs) next ∙ sym h.1)))

clash : (y c : ℕ) → not (eqb y c) ≡ true → y ≡ c → ⊥
clash y c n e = grind (arith, nat_tests)

-- there is one way to cut at the first such byte
cut_once : (c : ℕ) (f g s t : List ℕ) → lacks c f ≡ true → lacks c g ≡ true → f ++ c ∷ s ≡ g ++ c ∷ t → (f ≡ g) × (s ≡ t)
cut_once c [] [] s t p q e = (refl, cc)
cut_once c [] (y ∷ g) s t p q e = absurd (clash y c (both (not (eqb y c)) (lacks c g) q).0 (cc))
cut_once c (x ∷ f) [] s t p q e = absurd (clash x c (both (not (eqb x c)) (lacks c f) p).0 (cc))
cut_once c (x ∷ f) (y ∷ g) s t p q e =
    let (a, b) = cut_once c f g s t (both (not (eqb x c)) (lacks c f) p).1 (both (not (eqb y c)) (lacks c g) q).1 (cc) in
    let head : x ≡ y = cc in
    (λ i. head i ∷ a i, b)

-- a list with the byte in it does not lack it
has_byte : (c : ℕ) (f s : List ℕ) → lacks c (f ++ c ∷ s) ≡ true → ⊥
has_byte c [] s h = clash c c (both (not (eqb c c)) (lacks c s) h).0 refl
has_byte c (x ∷ f) s h = has_byte c f s (both (not (eqb x c)) (lacks c (f ++ c ∷ s)) h).1

-- What output paths are made of.

all_weaker : (p q : ℕ → Bool) → ((b : ℕ) → p b ≡ true → q b ≡ true) → (bs : List ℕ) → list_all p bs ≡ true → list_all q bs ≡ true
all_weaker p q f [] h = refl
all_weaker p q f (b ∷ bs) h = let (x, y) = both (p b) (list_all p bs) h in joined (q b) (list_all q bs) (f b x) (all_weaker p q f bs y)

-- an ASCII byte but the newline
abbrev plain : ℕ → Bool
plain b = nat_lt b 128 && not (eqb b newline)

name_plain : (b : ℕ) → is_name_byte b ≡ true → plain b ≡ true
name_plain b h = grind (arith, nat_tests, h)

file_plain : (file path : List ℕ) → list_all plain file ≡ true → IsFileOf file path → list_all plain path ≡ true
file_plain file path h (name, fits, is) =
    ap (list_all plain) is ∙ (list_all-append plain name file
    ∙ joined (list_all plain name) (list_all plain file) (all_weaker is_name_byte plain name_plain name (both (not (length name == 0)) (list_all is_name_byte name) fits).1) h)

path_plain : (path : List ℕ) → IsOutputPath path → list_all plain path ≡ true
path_plain path (inl e) = ap (list_all plain) e
path_plain path (inr (inl h)) = file_plain (codes "/Tokens.swift") path refl h
path_plain path (inr (inr (inl h))) = file_plain (codes "/tokens.css") path refl h
path_plain path (inr (inr (inr (inl h)))) = file_plain (codes "/tokens.json") path refl h
path_plain path (inr (inr (inr (inr (inl h))))) = file_plain (codes "/tokens.xml") path refl h
path_plain path (inr (inr (inr (inr (inr h))))) = file_plain (codes "/REFUSED") path refl h

pub path_lacks : (path : List ℕ) → IsOutputPath path → lacks newline path ≡ true
path_lacks path h = all_weaker plain (λ b. not (eqb b newline)) (λ b p. (both (nat_lt b 128) (not (eqb b newline)) p).1) path (path_plain path h)

low-ascii : (bs : List ℕ) → list_all (λ b. nat_lt b 128) bs ≡ true → IsAscii bs
low-ascii [] h i = omega arith
low-ascii (x ∷ bs) h zero = let (p, q) = both (nat_lt x 128) (list_all (λ b. nat_lt b 128) bs) h in grind (arith, nat_tests, p)
low-ascii (x ∷ bs) h (suc i) = let (p, q) = both (nat_lt x 128) (list_all (λ b. nat_lt b 128) bs) h in low-ascii bs q i

path_utf8 : (path : List ℕ) → IsOutputPath path → IsUtf8 path
path_utf8 path h = IsUtf8-from_ascii path (low-ascii path (all_weaker plain (λ b. nat_lt b 128) (λ b p. (both (nat_lt b 128) (not (eqb b newline)) p).0) path (path_plain path h)))

lines_utf8 : (paths : List (List ℕ)) → AllByRecursion IsOutputPath paths → IsUtf8 (manifest_text paths)
lines_utf8 [] h = IsUtf8-nil
lines_utf8 (p ∷ ps) h = IsUtf8-append (path_line p) (manifest_text ps) (IsUtf8-append p (newline ∷ []) (path_utf8 p h.0) (IsUtf8-from_ascii (newline ∷ []) (low-ascii (newline ∷ []) refl))) (lines_utf8 ps h.1)

-- a manifest is text
pub manifest_utf8 : (text : List ℕ) (paths : List (List ℕ)) → IsManifest text paths → IsUtf8 text
manifest_utf8 text paths list = subst IsUtf8 (sym list.lines) (lines_utf8 paths list.each)

after_name : (name : List ℕ) (c : ℕ) (cs : List ℕ) → text_cmp [] (name ++ c ∷ cs) ≡ Less
after_name [] c cs = refl
after_name (x ∷ name) c cs = refl

file_some : (c : ℕ) (cs path : List ℕ) → IsFileOf (c ∷ cs) path → text_cmp [] path ≡ Less
file_some c cs path (name, fits, is) = ap (text_cmp []) is ∙ after_name name c cs

-- an output path is not empty
pub path_some : (path : List ℕ) → IsOutputPath path → text_cmp [] path ≡ Less
path_some path (inl e) = ap (text_cmp []) e
path_some path (inr (inl h)) = file_some 47 (codes "Tokens.swift") path h
path_some path (inr (inr (inl h))) = file_some 47 (codes "tokens.css") path h
path_some path (inr (inr (inr (inl h)))) = file_some 47 (codes "tokens.json") path h
path_some path (inr (inr (inr (inr (inl h))))) = file_some 47 (codes "tokens.xml") path h
path_some path (inr (inr (inr (inr (inr h))))) = file_some 47 (codes "REFUSED") path h

-- Lines.

line_first : (p : List ℕ) (ps : List (List ℕ)) → manifest_text (p ∷ ps) ≡ p ++ newline ∷ manifest_text ps
line_first p ps = append_assoc p (newline ∷ []) (manifest_text ps)

no_empty : (p : List ℕ) (c : ℕ) (s : List ℕ) → [] ≡ p ++ c ∷ s → ⊥
no_empty [] c s e = cc
no_empty (x ∷ p) c s e = cc

-- what the list begins with, by the text's first line
pub record BeginsWith (last line rest : List ℕ) (paths : List (List ℕ)) : Type 0 where
  pub later : List (List ℕ)
  pub first : paths ≡ line ∷ later
  pub fits : IsOutputPath line
  pub above : text_cmp last line ≡ Less
  pub list : IsListFrom line rest later

pub first_line : (last text line rest : List ℕ) (paths : List (List ℕ)) → IsFirstCut newline text line rest → IsListFrom last text paths → BeginsWith last line rest paths
first_line last text line rest [] cut list = absurd (no_empty line newline rest (sym list.lines ∙ cut.1))
first_line last text line rest (p ∷ ps) cut list =
    let (same, more) = cut_once newline p line (manifest_text ps) rest (path_lacks p list.each.0) cut.0 (sym (line_first p ps) ∙ (sym list.lines ∙ cut.1)) in
    record {
      later = ps;
      first = ap (λ (z : List ℕ). z ∷ ps) same;
      fits = subst IsOutputPath same list.each.0;
      above = ap (text_cmp last) (sym same) ∙ list.rise.0;
      list = record {
        lines = sym more;
        each = list.each.1;
        rise = subst (λ (z : List ℕ). Rises z ps) same list.rise.1;
      };
    }

-- a text without a newline is empty, or no manifest
pub no_line : (last text : List ℕ) (paths : List (List ℕ)) → lacks newline text ≡ true → text ≢ [] → IsListFrom last text paths → ⊥
no_line last text [] lacking some list = some list.lines
no_line last text (p ∷ ps) lacking some list = has_byte newline p (manifest_text ps) (sym (ap (lacks newline) (list.lines ∙ line_first p ps)) ∙ lacking)

pub line_more : (last text line rest : List ℕ) (paths : List (List ℕ)) → IsFirstCut newline text line rest → IsOutputPath line → text_cmp last line ≡ Less → IsListFrom line rest paths → IsListFrom last text (line ∷ paths)
line_more last text line rest paths cut fits above list = record {
  lines = cut.1 ∙ (ap (λ (z : List ℕ). line ++ newline ∷ z) list.lines ∙ sym (line_first line paths));
  each = (fits, list.each);
  rise = (above, list.rise);
}

-- one list
lists_same : (last text : List ℕ) (paths others : List (List ℕ)) → IsListFrom last text paths → IsListFrom last text others → paths ≡ others
lists_same last text [] [] a b = refl
lists_same last text [] (q ∷ qs) a b = absurd (no_empty q newline (manifest_text qs) (sym a.lines ∙ (b.lines ∙ line_first q qs)))
lists_same last text (p ∷ ps) qs a b =
    let begins = first_line last text p (manifest_text ps) qs (path_lacks p a.each.0, a.lines ∙ line_first p ps) b in
    let rest = lists_same p (manifest_text ps) ps begins.later (record { lines = refl; each = a.each.1; rise = a.rise.1 }) begins.list in
    ap (λ (z : List (List ℕ)). p ∷ z) rest ∙ sym begins.first

pub one_manifest : (text : List ℕ) (paths others : List (List ℕ)) → IsManifest text paths → IsManifest text others → paths ≡ others
one_manifest text paths others a b = lists_same [] text paths others a b

-- Reading line by line: with what was read, each list of the rest is a list of all, and there is no other.
pub record IsReadTo (text : List ℕ) (done : List (List ℕ)) (last rest : List ℕ) : Type 0 where
  pub sound : (paths : List (List ℕ)) → IsListFrom last rest paths → IsManifest text (done ++ paths)
  pub whole : (paths : List (List ℕ)) → IsManifest text paths → (more : List (List ℕ)) × (paths ≡ done ++ more) × IsListFrom last rest more

pub read_none : (text : List ℕ) → IsReadTo text [] [] text
read_none text = record { sound = λ paths list. list; whole = λ paths list. (paths, refl, list) }

pub read_more : (text : List ℕ) (done : List (List ℕ)) (last rest line more : List ℕ) → IsReadTo text done last rest → IsFirstCut newline rest line more → IsOutputPath line → text_cmp last line ≡ Less → IsReadTo text (done ++ line ∷ []) line more
read_more text done last rest line more read cut fits above = record {
  sound = λ paths list. subst (IsManifest text) (sym (append_assoc done (line ∷ []) paths)) (read.sound (line ∷ paths) (line_more last rest line more paths cut fits above list));
  whole = λ paths list.
      let (left, is, at) = read.whole paths list in
      let begins = first_line last rest line more left cut at in
      (begins.later, is ∙ (ap (λ (z : List (List ℕ)). done ++ z) begins.first ∙ sym (append_assoc done (line ∷ []) begins.later)), begins.list);
}

pub read_all : (text : List ℕ) (done : List (List ℕ)) (last rest : List ℕ) → IsReadTo text done last rest → rest ≡ [] → IsManifest text done
read_all text done last rest read e = subst (IsManifest text) (append-nil done) (read.sound [] (record { lines = e; each = tt; rise = tt }))

pub read_unended : (text : List ℕ) (done : List (List ℕ)) (last rest : List ℕ) → IsReadTo text done last rest → lacks newline rest ≡ true → rest ≢ [] → (paths : List (List ℕ)) → IsManifest text paths → ⊥
read_unended text done last rest read lacking some paths list =
    let (left, is, at) = read.whole paths list in no_line last rest left lacking some at

pub read_unfit : (text : List ℕ) (done : List (List ℕ)) (last rest line more : List ℕ) → IsReadTo text done last rest → IsFirstCut newline rest line more → (IsOutputPath line → text_cmp last line ≡ Less → ⊥) → (paths : List (List ℕ)) → IsManifest text paths → ⊥
read_unfit text done last rest line more read cut unfit paths list =
    let (left, is, at) = read.whole paths list in
    let begins = first_line last rest line more left cut at in
    unfit begins.fits begins.above

-- a text that is not empty
pub longer_rest : (rest : List ℕ) (empty : Bool) → empty ≡ (length rest == 0) → empty ≡ false → rest ≢ []
longer_rest rest empty e is none = let k : true ≡ false = ap (λ (z : List ℕ). length z == 0) (sym none) ∙ (sym e ∙ is) in cc

pub empty_rest : (rest : List ℕ) (empty : Bool) → empty ≡ (length rest == 0) → empty ≡ true → rest ≡ []
empty_rest [] empty e is = refl
empty_rest (b ∷ rest) empty e is = let k : length (b ∷ rest) ≡ 0 = eqb-true (length (b ∷ rest)) 0 (sym e ∙ is) in absurd (omega (arith, k))

pub read_from : (text : List ℕ) (done : List (List ℕ)) → done ≡ [] → IsReadTo text done [] text
read_from text done e = subst (λ (ps : List (List ℕ)). IsReadTo text ps [] text) (sym e) (read_none text)

pub read_on : (text : List ℕ) (done after : List (List ℕ)) (last rest line more : List ℕ) → after ≡ done ++ line ∷ [] → IsReadTo text done last rest → IsFirstCut newline rest line more → IsOutputPath line → text_cmp last line ≡ Less → IsReadTo text after line more
read_on text done after last rest line more e read cut fits above = subst (λ (ps : List (List ℕ)). IsReadTo text ps line more) (sym e) (read_more text done last rest line more read cut fits above)

pub names_push : {Z : Type 0} (items after : List (String Z)) (s : String Z) (path : List ℕ) → after ≡ items ++ s ∷ [] → string_bytes s ≡ path → map_list string_bytes after ≡ map_list string_bytes items ++ path ∷ []
names_push items after s path pushed is = ap (map_list string_bytes) pushed ∙ (map-append string_bytes items (s ∷ []) ∙ ap (λ z. map_list string_bytes items ++ z ∷ []) is)

pub less_by : (o : Ordering) → is_lt o ≡ true → o ≡ Less
less_by Less e = refl
less_by Equal e = cc
less_by Greater e = cc
