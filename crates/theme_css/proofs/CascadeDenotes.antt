-- Where the cascade gives each name the value that a sheet of one block declares, it gives what the sheet denotes.
use Rattle.std.proofs.Common.{◌≡◌, ℕ, zero, suc, Bool, List, [], ◌∷◌, ◌++◌, flat_map, refl, sym, ◌∙◌, ap, ap₂, subst, Option, Some, None, inl, inr}
use Rattle.std.specs.Prelude.{if◌then◌else◌}
use Rattle.std.specs.FinMap as finite
use Rattle.std.specs.List.{AllByRecursion, AllZip}
use Rattle.std.specs.Option.{option_or}
use Rattle.std.specs.Str.{bytes_eq}
use Rattle.std.proofs.lemmas.List.{append_cancel_left, append_cancel_right}
use Rattle.std.proofs.lemmas.Option.{same_Some}
use Rattle.ring.specs.Lists.{In, AreApart}
use Rattle.tk_io.specs.FilesData.{FilesData}
use Rattle.permutations.specs.Name.{Choice}
use Rattle.css_out.specs.Piece.{Mark, Piece, mark, var}
use Rattle.css_out.specs.Reading.{Declared, Block as Reading, Reads, head, foot}
use Rattle.css_out.specs.Rounds.{HasValue, declared_for, most_links, or_var, put, rounds}
use Rattle.css_out.specs.Laws.{BlocksJoin, ReadOnce}
use Rattle.theme_css.specs.Blocks.{Theme}
use Rattle.theme_css.specs.Cascade.{Block, Declaration, cascade, value_in}
use Rattle.theme_css.specs.Denoting.{HasValueOn, HaveOneValue, ReadsAs}
use Rattle.theme_css.specs.Sheet.{Declares, line_text}
use Rattle.theme_css.specs.Themes.{DeclareOnce, DenotesEach, IsTheme, ShowsEach, own_path}
use Rattle.theme_css.proofs.LinesAreRead.{IsLineOf, block_of_lines, lines_of_block, names_of, not_there, value_reads}
use Rattle.theme_css.proofs.Named.{eq_self}

-- Rounds by pieces that are alike.
module _ (f g : List ℕ → Option (List Piece)) (same : (n : List ℕ) → f n ≡ g n) where
  put_alike : (p : Piece) → put f p ≡ put g p
  put_alike (mark m) = refl
  put_alike (var n) = ap (or_var n) (same n)

  all_put : (ps : List Piece) → flat_map (put f) ps ≡ flat_map (put g) ps
  all_put [] = refl
  all_put (p ∷ ps) = ap₂ (λ (x y : List Piece). x ++ y) (put_alike p) (all_put ps)

  rounds_alike : (k : ℕ) (ps : List Piece) → rounds k f ps ≡ rounds k g ps
  rounds_alike zero ps = refl
  rounds_alike (suc k) ps = ap (rounds k f) (all_put ps) ∙ rounds_alike k (flat_map (put g) ps)

-- a value has one list of pieces
abbrev pieces_of : List Declared → List Piece
pieces_of [] = []
pieces_of (d ∷ ds) = d.pieces

alone : {t : List ℕ} {ds : List Declared} → Reading t ds → Reads (head ++ (t ++ foot)) ds
alone {t} b = record { inside = t; frame = refl; block = b }

one_reading : ReadOnce → (n : List ℕ) (v : Option (List ℕ)) (o p : Option (List Piece)) → ReadsAs n v o → ReadsAs n v p → o ≡ p
one_reading once n None None None h i = refl
one_reading once n None None (Some ps) h i = absurd i
one_reading once n None (Some ps) p h i = absurd h
one_reading once n (Some v) None p h i = absurd h
one_reading once n (Some v) (Some ps) None h i = absurd i
one_reading once n (Some v) (Some ps) (Some qs) h i =
    let text = line_text (record { name = n; value = v }) in
    let D : List Piece → List Declared = λ x. record { name = n; pieces = x } ∷ [] in
    ap (λ (ds : List Declared). Some (pieces_of ds)) (once (head ++ (text ++ foot)) (D ps) (D qs) (alone h) (alone i))

-- Declarations of which each value has pieces.

record Built (own : List Declaration) : Type 0 where
  ds : List Declared
  are : AllZip IsLineOf own ds

module _ (pieces : List ℕ → Option (List Piece)) where
  abbrev HasOwn : Declaration → Type 0
  HasOwn l = ReadsAs l.name (Some l.value) (pieces l.name)

  one_more : (l : Declaration) (ls : List Declaration) (o : Option (List Piece)) → ReadsAs l.name (Some l.value) o → Built ls → Built (l ∷ ls)
  one_more l ls None h b = absurd h
  one_more l ls (Some ps) h b = record { ds = record { name = l.name; pieces = ps } ∷ b.ds; are = (record { name = refl; has = h }, b.are) }

  built : (own : List Declaration) → AllByRecursion HasOwn own → Built own
  built [] h = record { ds = []; are = tt }
  built (l ∷ ls) h = one_more l ls (pieces l.name) h.0 (built ls h.1)

-- the value of a declaration is that of its name, where names are apart
first_value : (l : Declaration) (ls : List Declaration) → (In l.name (names_of ls) → ⊥) → value_in (l ∷ ls) l.name ≡ Some l.value
first_value l ls absent =
    ap (λ (o : Option (List ℕ)). option_or o (if bytes_eq l.name l.name then Some l.value else None)) (not_there ls l.name absent)
    ∙ ap (λ (b : Bool). if b then Some l.value else None) (eq_self l.name)

own_values : (ls : List Declaration) → AreApart (names_of ls) → AllByRecursion (λ l. value_in ls l.name ≡ Some l.value) ls
own_values [] apart = tt
own_values (l ∷ ls) apart = (first_value l ls apart.0, behind ls (own_values ls apart.1))
  where
    behind : (ms : List Declaration) → AllByRecursion (λ m. value_in ls m.name ≡ Some m.value) ms → AllByRecursion (λ m. value_in (l ∷ ls) m.name ≡ Some m.value) ms
    behind [] h = tt
    behind (m ∷ ms) h = (ap (λ (o : Option (List ℕ)). option_or o (if bytes_eq l.name m.name then Some l.value else None)) h.0, behind ms h.1)

all_have : (pieces : List ℕ → Option (List Piece)) (own ls : List Declaration) → ((n : List ℕ) → ReadsAs n (value_in own n) (pieces n)) → AllByRecursion (λ l. value_in own l.name ≡ Some l.value) ls
    → AllByRecursion (HasOwn pieces) ls
all_have pieces own [] read h = tt
all_have pieces own (l ∷ ls) read h =
    (subst (λ (o : Option (List ℕ)). ReadsAs l.name o (pieces l.name)) h.0 (read l.name), all_have pieces own ls read h.1)

-- what stands between the head and the foot
same_inside : (s t : List ℕ) → head ++ (s ++ foot) ≡ head ++ (t ++ foot) → s ≡ t
same_inside s t e = append_cancel_right s t foot (append_cancel_left head (s ++ foot) (t ++ foot) e)

module _ (join : BlocksJoin) (once : ReadOnce) (bytes : List ℕ) (own : List Declaration) (sheet : Declares bytes own) (apart : AreApart (names_of own)) (blocks : List Block) (page : List Choice) (shows : (n : List ℕ) → cascade blocks page n ≡ value_in own n) where
  given : (name : List ℕ) (value : List Mark) → HasValue bytes name value → HasValueOn blocks page name value
  given name value h =
      let ds = h.declarations in
      let same : h.reads.inside ≡ sheet.inside = same_inside h.reads.inside sheet.inside (sym h.reads.frame ∙ sheet.frame) in
      let P : List ℕ → Type 0 = λ z. Reading z ds in
      let are = lines_of_block sheet.lines ds (subst P same h.reads.block) in
      record {
        pieces = declared_for ds;
        read = λ n. subst (λ (o : Option (List ℕ)). ReadsAs n o (declared_for ds n)) (sym (shows n)) (value_reads own ds n are apart);
        start = h.stands.start;
        found = h.stands.found;
        after = h.stands.after;
      }

  only : (name : List ℕ) (value : List Mark) → HasValueOn blocks page name value → HasValue bytes name value
  only name value h =
      let read : (n : List ℕ) → ReadsAs n (value_in own n) (h.pieces n) = λ n. subst (λ (o : Option (List ℕ)). ReadsAs n o (h.pieces n)) (shows n) (h.read n) in
      let b = built h.pieces own (all_have h.pieces own own read (own_values own apart)) in
      let same : (n : List ℕ) → declared_for b.ds n ≡ h.pieces n =
      λ n. one_reading once n (value_in own n) (declared_for b.ds n) (h.pieces n) (value_reads own b.ds n b.are apart) (read n) in
      record {
        declarations = b.ds;
        reads = record { inside = sheet.inside; frame = sheet.frame; block = block_of_lines join sheet.lines b.ds b.are };
        stands = record { start = h.start; found = same name ∙ h.found; after = rounds_alike (declared_for b.ds) h.pieces same most_links h.start ∙ h.after };
      }

  pub one_value : (name : List ℕ) (value : List Mark) → HaveOneValue bytes blocks page name value
  one_value name value = record { given = given name value; only = only name value }

-- Of each theme.

record OfTheme (out : FilesData) (us : List Choice) (t : Theme) : Type 0 where
  contexts : List Choice
  theme : IsTheme out us contexts t
  once : AreApart (names_of t.own)

theme_in : (out : FilesData) (us : List Choice) (all : List (List Choice)) (ts : List Theme) → AllZip (IsTheme out us) all ts → DeclareOnce ts → (t : Theme) → In t ts → OfTheme out us t
theme_in out us all [] are once t i = absurd i
theme_in out us [] (u ∷ ts) are once t i = absurd are
theme_in out us (p ∷ all) (u ∷ ts) are once t (inl e) = subst (OfTheme out us) (sym e) (record { contexts = p; theme = are.0; once = once.0 })
theme_in out us (p ∷ all) (u ∷ ts) are once t (inr i) = theme_in out us all ts are.1 once.1 t i

pub denotes_each : BlocksJoin → ReadOnce → (out : FilesData) (us : List Choice) (all : List (List Choice)) (ts : List Theme) (blocks : List Block) → AllZip (IsTheme out us) all ts → DeclareOnce ts → ShowsEach blocks ts → DenotesEach out blocks ts
denotes_each join once out us all ts blocks are each_once shows t i bytes there name value =
    let o = theme_in out us all ts are each_once t i in
    let th = o.theme in
    let same : th.bytes ≡ bytes = same_Some th.bytes bytes (sym th.there ∙ (ap (λ (c : List Choice). finite.get out (own_path c)) (sym th.all) ∙ there)) in
    let S : List ℕ → Type 0 = λ z. Declares z t.own in
    one_value join once bytes t.own (subst S same th.lines) o.once blocks t.page (shows t i) name value
