-- Themes that are added, and what of them the sheet needs.
use Rattle.std.proofs.Common.{Bor, ◌≡◌, ◌∙◌, ◌<◌, ◌+◌, ◌==◌, ℕ, zero, suc, Bool, true, false, cond, List, [], ◌∷◌, ◌++◌, map, length, take, get_or, Option, Some, None, Result, Ok, Err, IfOk, append-nil, append_assoc, refl, sym, ap, subst, arith}
use Rattle.std.specs.Prelude.{IfSome, if◌then◌else◌}
use Rattle.std.specs.List.{AllByRecursion, AllZip, flat_map, range_with_len}
use Rattle.std.specs.Option.{option_or}
use Rattle.std.specs.Str.{bytes_eq}
use Rattle.std.proofs.lemmas.Bool.Decides.{nat_tests}
use Rattle.std.proofs.lemmas.List.{map-append, take_more}
use Rattle.std.proofs.lemmas.List.Concat.{flat_map-append}
use Rattle.std.proofs.lemmas.List.Elements.{filter-append}
use Rattle.ring.specs.Lists.{In}
use Rattle.permutations.specs.Name.{Choice, name_of}
use Rattle.resolver_doc.specs.Document.{ItemData}
use Rattle.tk_io.specs.FilesData.{FilesData}
use Rattle.theme_css.specs.Blocks.{Theme}
use Rattle.theme_css.specs.Cascade.{Declaration, initial, value_in}
use Rattle.theme_css.specs.Sheet.{Lines, declares, no_lines, omits}
use Rattle.theme_css.specs.Themes.{AreNamesOf, IsSheetOf, IsTheme, by_weight, first_bad, odd, pages, usual, with_weight}
use Rattle.theme_css.specs.declared.blocks.Theme.{Theme as Themed}
use Rattle.theme_css.specs.declared.choices.Row.{Row}
use Rattle.theme_css.specs.declared.offers.Declared.{Declared}
use Rattle.theme_css.specs.inner.Offers.{AreRanked, AreThemesRanked}
use Rattle.theme_css.specs.inner.Order.{HasNoInitial}
use Rattle.theme_css.specs.inner.Pages.{AddsThemes, HasSheet, IsSheetOfOrder, row_view, rows_view, themes_view}
use Rattle.theme_css.specs.inner.Views.{declarations_at}
use Rattle.theme_css.proofs.Named.{in_at}

pub ok_map : {T E : Type 0} (r : Result T E) (P Q : T → Type 0) → ((x : T) → P x → Q x) → IfOk r P → IfOk r Q
ok_map (Ok x) P Q f h = f x h
ok_map (Err e) P Q f h = tt

all_zip-append : {A B : Type 0} (R : A → B → Type 0) (xs us : List A) (ys vs : List B) → AllZip R xs ys → AllZip R us vs → AllZip R (xs ++ us) (ys ++ vs)
all_zip-append R [] us [] vs h k = k
all_zip-append R [] us (y ∷ ys) vs h k = absurd h
all_zip-append R (x ∷ xs) us [] vs h k = absurd h
all_zip-append R (x ∷ xs) us (y ∷ ys) vs h k = (h.0, all_zip-append R xs us ys vs h.1 k)

module _ (out : FilesData) (us : List Choice) where
  pub none_added : (old : List Theme) → AddsThemes out us [] old old
  none_added old = ([], sym (append-nil old), tt)

  pub adds_more : (xs ys : List (List Choice)) (old now new : List Theme) → AddsThemes out us xs old now → AddsThemes out us ys now new → AddsThemes out us (xs ++ ys) old new
  adds_more xs ys old now new (first, e, firsts) (second, f, seconds) =
      (first ++ second, f ∙ (ap (λ l. l ++ second) e ∙ append_assoc old first second), all_zip-append (IsTheme out us) xs ys first second firsts seconds)

  pub unlike_weight : (page : List Choice) (k n : ℕ) (old : List Theme) (b : Bool) → n ≡ length (odd us page) → (n == k) ≡ b → b ≡ false → AddsThemes out us (with_weight us (page ∷ []) k) old old
  unlike_weight page k n old b e h other =
      subst (λ l. AddsThemes out us l old old) (sym (ap (λ z. cond z (page ∷ []) []) (ap (λ m. m == k) (sym e) ∙ (h ∙ other)))) (none_added old)

  pub like_weight : (page : List Choice) (k n : ℕ) (old new : List Theme) (t : Theme) (b : Bool) → n ≡ length (odd us page) → (n == k) ≡ b → b ≡ true → new ≡ old ++ t ∷ [] → IsTheme out us page t
      → AddsThemes out us (with_weight us (page ∷ []) k) old new
  like_weight page k n old new t b e h same is theme =
      subst (λ l. AddsThemes out us l old new) (sym (ap (λ z. cond z (page ∷ []) []) (ap (λ m. m == k) (sym e) ∙ (h ∙ same)))) (t ∷ [], is, (theme, tt))

  -- so many of the contexts are not the usual ones
  pub at_weight : (page : List Choice) (k n : ℕ) (old new : List Theme) (t : Theme) → n ≡ length (odd us page) → n ≡ k → new ≡ old ++ t ∷ [] → IsTheme out us page t → AddsThemes out us (with_weight us (page ∷ []) k) old new
  at_weight page k n old new t e f is theme = like_weight page k n old new t (n == k) e refl (grind (arith, nat_tests, f)) is theme

  pub next_page : (rows : List Row) (i : ℕ) (row : Row) (k : ℕ) (old now new : List Theme) → i < length rows → row ≡ get_or rows i row → AddsThemes out us (with_weight us (rows_view (take i rows)) k) old now
      → AddsThemes out us (with_weight us (row_view row ∷ []) k) now new → AddsThemes out us (with_weight us (rows_view (take (i + 1) rows)) k) old new
  next_page rows i row k old now new below is before one =
      let more : take (i + 1) rows ≡ take i rows ++ row ∷ [] = take_more rows i row below ∙ ap (λ (x : Row). take i rows ++ x ∷ []) (sym is) in
      let whole : with_weight us (rows_view (take (i + 1) rows)) k ≡ with_weight us (rows_view (take i rows)) k ++ with_weight us (row_view row ∷ []) k =
      ap (λ l. with_weight us (rows_view l) k) more
      ∙ (ap (λ l. with_weight us l k) (map-append row_view (take i rows) (row ∷ []))
      ∙ filter-append (λ page. length (odd us page) == k) (rows_view (take i rows)) (row_view row ∷ [])) in
      subst (λ l. AddsThemes out us l old new) (sym whole) (adds_more (with_weight us (rows_view (take i rows)) k) (with_weight us (row_view row ∷ []) k) old now new before one)

  range_more : (a n : ℕ) → range_with_len a (n + 1) ≡ range_with_len a n ++ (a + n) ∷ []
  range_more a n = ap (range_with_len a) one ∙ go a n
    where
      one : n + 1 ≡ suc n
      one = omega arith

      go : (b m : ℕ) → range_with_len b (suc m) ≡ range_with_len b m ++ (b + m) ∷ []
      go b zero = ap (λ (z : ℕ). z ∷ []) (omega arith)
      go b (suc m) = ap (λ (l : List ℕ). b ∷ l) (go (b + 1) m ∙ ap (λ (z : ℕ). range_with_len (b + 1) m ++ z ∷ []) (omega arith))

  pub next_weight : (all : List (List Choice)) (k : ℕ) (now new : List Theme) → AllZip (IsTheme out us) (flat_map (with_weight us all) (range_with_len 0 k)) now → AddsThemes out us (with_weight us all k) now new
      → AllZip (IsTheme out us) (flat_map (with_weight us all) (range_with_len 0 (k + 1))) new
  next_weight all k now new before (more, e, are) =
      let zero_plus : 0 + k ≡ k = omega arith in
      let whole : flat_map (with_weight us all) (range_with_len 0 (k + 1)) ≡ flat_map (with_weight us all) (range_with_len 0 k) ++ with_weight us all k =
      ap (flat_map (with_weight us all)) (range_more 0 k ∙ ap (λ (z : ℕ). range_with_len 0 k ++ z ∷ []) zero_plus)
      ∙ (flat_map-append (with_weight us all) (range_with_len 0 k) (k ∷ []) ∙ ap (λ l. flat_map (with_weight us all) (range_with_len 0 k) ++ l) (append-nil (with_weight us all k))) in
      let P : List (List Choice) → List Theme → Type 0 = λ l ts. AllZip (IsTheme out us) l ts in
      subst (λ l. P l new) (sym whole) (subst (P (flat_map (with_weight us all) (range_with_len 0 k) ++ with_weight us all k)) (sym e) (all_zip-append (IsTheme out us) (flat_map (with_weight us all) (range_with_len 0 k)) (with_weight us all k) now more before are))

  -- .. by all numbers that there can be
  pub all_weights : (all : List (List Choice)) (k w : ℕ) (now new : List Theme) → AllZip (IsTheme out us) (flat_map (with_weight us all) (range_with_len 0 k)) now → AddsThemes out us (with_weight us all w) now new → k ≡ length us → w ≡ length us
      → AllZip (IsTheme out us) (by_weight us all) new
  all_weights all k w now new before one e f =
      subst (λ m. AllZip (IsTheme out us) (flat_map (with_weight us all) (range_with_len 0 (m + 1))) new) e
      (next_weight all k now new before (subst (λ m. AddsThemes out us (with_weight us all m) now new) (f ∙ sym e) one))

-- the names of permutations, by the rows of their contexts
pub name_at : (names : List (Bor (List ℕ))) (rows : List Row) (i : ℕ) (d : Bor (List ℕ)) (row : Row) → map (λ n. n.now) names ≡ map name_of (rows_view rows) → i < length rows → row ≡ get_or rows i row → (get_or names i d).now ≡ name_of (row_view row)
name_at [] [] i d row e h is = absurd (omega (arith, h))
name_at [] (r ∷ rows) i d row e h is = cc
name_at (n ∷ names) [] i d row e h is = absurd (omega (arith, h))
name_at (n ∷ names) (r ∷ rows) zero d row e h is = let first : n.now ≡ name_of (row_view r) = cc in first ∙ ap (λ (x : Row). name_of (row_view x)) (sym is)
name_at (n ∷ names) (r ∷ rows) (suc i) d row e h is =
    let rest : map (λ m. m.now) names ≡ map name_of (rows_view rows) = cc in
    name_at names rows i d row rest (omega (arith, h)) is

-- the sheet of an order, by rows and usual contexts that are those of the order
pub order_sheet : (out : FilesData) (order : List ItemData) (us : List Choice) (rows : List (List Choice)) (ts : List Theme) (sheet : List ℕ) → first_bad order ≡ None → us ≡ usual order → rows ≡ pages order
    → AllZip (IsTheme out us) (by_weight us rows) ts → IsSheetOf ts sheet → IsSheetOfOrder out order sheet
order_sheet out order us rows ts sheet none e f are is =
    (none, ts, subst (λ r. AllZip (IsTheme out (usual order)) (by_weight (usual order) r) ts) f (subst (λ u. AllZip (IsTheme out u) (by_weight u rows) ts) e are), is)

pub is_theme : (out : FilesData) (us page : List Choice) (t : Theme) → t.page ≡ page → t.odd ≡ odd us page → HasSheet out (name_of page) t.own → IsTheme out us page t
is_theme out us page t p o (bytes, there, own) = record { all = p; unusual = o; bytes = bytes; there = there; lines = own }

-- No line declares `initial`.
lines_some : {text : List ℕ} {ds : List Declaration} → Lines text ds → (name : List ℕ) → IfSome (value_in ds name) (λ v. bytes_eq v initial ≡ false)
lines_some no_lines name = tt
lines_some (omits n rest ds named lines) name = lines_some lines name
lines_some (declares d rest ds line lines) name = go (value_in ds name) (bytes_eq d.name name) (lines_some lines name)
  where
    go : (r : Option (List ℕ)) (b : Bool) → IfSome r (λ v. bytes_eq v initial ≡ false) → IfSome (option_or r (if b then Some d.value else None)) (λ v. bytes_eq v initial ≡ false)
    go (Some v) b h = h
    go None true h = line.value.some
    go None false h = tt

pub none_initial : (out : FilesData) (us : List Choice) (all : List (List Choice)) (ts : List Theme) → AllZip (IsTheme out us) all ts → AllByRecursion HasNoInitial ts
none_initial out us [] [] h = tt
none_initial out us [] (t ∷ ts) h = absurd h
none_initial out us (p ∷ ps) [] h = absurd h
none_initial out us (p ∷ ps) (t ∷ ts) h = (lines_some (h.0).lines.lines, none_initial out us ps ts h.1)

-- Names of ranked declarations.
ranked_known : (names : List (List ℕ)) (ds : List Declared) → AreRanked (length names) ds → AllByRecursion (λ d. In d.name names) (declarations_at names ds)
ranked_known names [] h = tt
ranked_known names (d ∷ ds) h = (in_at names d.rank [] h.0, ranked_known names ds h.1)

pub themes_known : (names : List (List ℕ)) (ts : List Themed) → AreThemesRanked (length names) ts → AreNamesOf names (themes_view names ts)
themes_known names [] h = tt
themes_known names (t ∷ ts) h = (ranked_known names t.own.items h.0, themes_known names ts h.1)
