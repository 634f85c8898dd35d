-- What stands in the files of a flat tree stays where it is as one token after another is added behind it.
use Rattle.std.proofs.Common.{◌≡◌, ℕ, List, [], ◌∷◌, ◌++◌, length, ◌+◌, ◌-◌, take, drop, arith, refl, sym, ap, ap₂, subst, ◌∙◌, flat_map}
use Rattle.std.proofs.lemmas.Grind.{flat_map-append}
use Rattle.std.proofs.lemmas.List.{append-nil, append_assoc, drop_at, take_at, map-append}
use Rattle.std.specs.List.{slice_range}
use Rattle.tk_io.specs.Writing.{Extends}
use Rattle.tk_io.proofs.Extending.{extends_self, extends_more}
use Rattle.transforms.specs.Extent.{EndsWith, text_in}
use Rattle.transforms.specs.Frag.{Frag}
use Rattle.transforms.specs.Sheet.{Gains, Holds, OpenSheet}
use Rattle.transforms.specs.declared.extent.Extent.{Extent}
use Rattle.token_cells.specs.declared.format.Format.{Format}
use Rattle.token_cells.specs.declared.pages.OpenPages.{OpenPages}
use Rattle.token_cells.specs.declared.pages.Pages.{Pages}
use Rattle.token_cells.specs.declared.row.Fragments.{Fragments}
use Rattle.token_cells.specs.declared.row.Row.{Row}
use Rattle.token_cells.specs.declared.row.Row.TheVariants.{Unbroken}
use Rattle.token_cells.specs.declared.row.Run.{Run}
use Rattle.token_cells.specs.declared.row.Shown.{Shown}
use Rattle.refusals.specs.declared.rule.CellRule.{CellRule}
use Rattle.name_path.specs.declared.place.Place.{Place}
use Rattle.token_cells.specs.Sheets.{bodies_for, frame_for, sheet_for}
use Rattle.token_cells.specs.TokenCell.{TokenCell, Refused, Made}
use Rattle.token_cells.specs.inner.AddedToPages.{AddsBody, AddsFrag, AddsNames, AddsRow, AreNamesAt, AreSheets, AreShown, ExtendsNames, Grows, HoldsCells}
use Rattle.token_cells.specs.inner.Kept.{PageTexts, fragment_in, open_texts, page_for, row_view, rows_view}

-- Names.

pub names_stay : (names : List (List ℕ)) → ExtendsNames names names
names_stay names = ([], sym (append-nil names))

pub names_grow : (a b c : List (List ℕ)) → ExtendsNames a b → ExtendsNames b c → ExtendsNames a c
names_grow a b c p q = (p.0 ++ q.0, q.1 ∙ (ap (λ names. names ++ q.0) p.1 ∙ append_assoc a p.0 q.0))

-- what is between its start and its end, whatever stands around it
middle : (before names behind : List (List ℕ)) (start end : ℕ) → start ≡ length before → end ≡ length before + length names
    → slice_range ((before ++ names) ++ behind) start end ≡ names
middle before names behind start end s e =
    ap (λ texts. take (end - start) (drop start texts)) (append_assoc before names behind)
    ∙ (ap (take (end - start)) (drop_at before (names ++ behind) start (sym s)) ∙ take_at names behind (end - start) (omega (arith, s, e)))

-- nothing was added
pub names_there : (all names : List (List ℕ)) (run : Run) → AreNamesAt all run names → AddsNames all all run names
names_there all names run at = record { grows = names_stay all; there = at }

-- Bodies.

pub adds_body : (before after : OpenSheet) (extent : Extent) (body : List ℕ) → Gains before after body → EndsWith before.text body extent after.text
    → AddsBody before after extent body
adds_body before after extent body gains ends = record {
  gains = gains;
  grows = ends.grows;
  there = λ later grown. ap (λ text. text_in text extent) grown.1 ∙ ends.stands grown.0;
}

-- .. with the names of a token
pub adds_frag : (sheet-0 sheet-1 : OpenSheet) (names-0 names-1 : List (List ℕ)) (shown : Shown) (frag : Frag) (lines : List ℕ) → lines ≡ frag.body
    → Gains sheet-0 sheet-1 lines → EndsWith sheet-0.text lines shown.lines sheet-1.text → AddsNames names-0 names-1 shown.names frag.names
    → AddsFrag sheet-0 sheet-1 names-0 names-1 shown frag
adds_frag sheet-0 sheet-1 names-0 names-1 shown frag lines is gains ends names = record {
  body = subst (AddsBody sheet-0 sheet-1 shown.lines) is (adds_body sheet-0 sheet-1 shown.lines lines gains ends);
  names = names;
}

-- Rows.

pub grows_self : (p : PageTexts) → Grows p p
grows_self p = record { css = extends_self p.css; android = extends_self p.android; swift = extends_self p.swift; json = extends_self p.json; names = names_stay p.names }

pub grows_more : (a b c : PageTexts) → Grows a b → Grows b c → Grows a c
grows_more a b c p q = record {
  css = extends_more a.css b.css c.css p.css q.css;
  android = extends_more a.android b.android c.android p.android q.android;
  swift = extends_more a.swift b.swift c.swift p.swift q.swift;
  json = extends_more a.json b.json c.json p.json q.json;
  names = names_grow a.names b.names c.names p.names q.names;
}

-- one body more is that of one cell more
holds_more : (format : Format) (before after : OpenSheet) (cells : List TokenCell) (cell : TokenCell) (body : List ℕ) → bodies_for format cell ≡ body ∷ []
    → Gains before after body → HoldsCells format before cells → HoldsCells format after (cells ++ cell ∷ [])
holds_more format before after cells cell body is gains holds =
    let bodies : flat_map (bodies_for format) (cells ++ cell ∷ []) ≡ flat_map (bodies_for format) cells ++ body ∷ [] =
    flat_map-append (bodies_for format) cells (cell ∷ []) ∙ ap (λ b. flat_map (bodies_for format) cells ++ b) (append-nil (bodies_for format cell) ∙ is) in
    subst (Holds after (frame_for format)) (sym bodies) (gains (frame_for format) (flat_map (bodies_for format) cells) holds)

-- a cell without a body adds none
holds_same : (format : Format) (sheet : OpenSheet) (cells : List TokenCell) (cell : TokenCell) → bodies_for format cell ≡ []
    → HoldsCells format sheet cells → HoldsCells format sheet (cells ++ cell ∷ [])
holds_same format sheet cells cell is holds =
    let bodies : flat_map (bodies_for format) (cells ++ cell ∷ []) ≡ flat_map (bodies_for format) cells =
    flat_map-append (bodies_for format) cells (cell ∷ []) ∙ (ap (λ b. flat_map (bodies_for format) cells ++ b) (append-nil (bodies_for format cell) ∙ is) ∙ append-nil (flat_map (bodies_for format) cells)) in
    subst (Holds sheet (frame_for format)) (sym bodies) holds

-- a fragment that was added is there later
frag_there : (sheet-0 sheet-1 : OpenSheet) (names-0 names-1 : List (List ℕ)) (shown : Shown) (frag : Frag) → AddsFrag sheet-0 sheet-1 names-0 names-1 shown frag
    → (text : List ℕ) (names : List (List ℕ)) → Extends sheet-1.text text → ExtendsNames names-1 names → fragment_in text names shown ≡ frag
frag_there sheet-0 sheet-1 names-0 names-1 shown frag adds text names t n =
    ap₂ (λ ns body. record { names = ns; body = body }) (adds.names.there names n) (adds.body.there text t)

-- what a token gives to each platform was added
pub made_row : (before after : OpenPages) (names-1 names-2 : List (List ℕ)) (f : Fragments) (css android ios : Frag) (json : List ℕ)
    → AddsFrag before.css after.css before.names names-1 f.css css → AddsFrag before.android after.android names-1 names-2 f.android android
    → AddsFrag before.swift after.swift names-2 after.names f.swift ios → AddsBody before.json after.json f.json json
    → AddsRow before after (Unbroken f) (Made css android ios (record { names = []; body = json }))
made_row before after names-1 names-2 f css android ios json on_css on_android in_swift in_json = record {
  holds = λ cells h. record {
    css = holds_more Format.Css before.css after.css cells cell css.body refl on_css.body.gains h.css;
    android = holds_more Format.Android before.android after.android cells cell android.body refl on_android.body.gains h.android;
    swift = holds_more Format.Swift before.swift after.swift cells cell ios.body refl in_swift.body.gains h.swift;
    json = holds_more Format.Json before.json after.json cells cell json refl in_json.gains h.json;
  };
  grows = record {
    css = on_css.body.grows;
    android = on_android.body.grows;
    swift = in_swift.body.grows;
    json = in_json.grows;
    names = names_grow before.names names-1 after.names on_css.names.grows (names_grow names-1 names-2 after.names on_android.names.grows in_swift.names.grows);
  };
  shown = λ later g.
      let behind_android = names_grow names-2 after.names later.names in_swift.names.grows g.names in
      let behind_css = names_grow names-1 names-2 later.names on_android.names.grows behind_android in
      all (frag_there _ _ _ _ f.css css on_css later.css later.names g.css behind_css) (frag_there _ _ _ _ f.android android on_android later.android later.names g.android behind_android)
      (frag_there _ _ _ _ f.swift ios in_swift later.swift later.names g.swift g.names) (in_json.there later.json g.json);
}
  where
    cell : TokenCell
    cell = Made css android ios (record { names = []; body = json })

    all : {c a i : Frag} {j : List ℕ} → c ≡ css → a ≡ android → i ≡ ios → j ≡ json → Made c a i (record { names = []; body = j }) ≡ cell
    all {c} {a} {i} {j} on_c on_a in_i in_j =
        ap₂ (λ x y. Made x y i (record { names = []; body = j })) on_c on_a ∙ ap₂ (λ x b. Made css android x (record { names = []; body = b })) in_i in_j

-- a token that breaks a rule adds nothing
pub refused_row : (pages : OpenPages) (row : Row) (rule : CellRule) (place : Place) (ring : List Place) → ((p : PageTexts) → row_view p row ≡ Refused rule place ring)
    → AddsRow pages pages row (Refused rule place ring)
refused_row pages row rule place ring is = record {
  holds = λ cells h. record {
    css = holds_same Format.Css pages.css cells (Refused rule place ring) refl h.css;
    android = holds_same Format.Android pages.android cells (Refused rule place ring) refl h.android;
    swift = holds_same Format.Swift pages.swift cells (Refused rule place ring) refl h.swift;
    json = holds_same Format.Json pages.json cells (Refused rule place ring) refl h.json;
  };
  grows = grows_self (open_texts pages);
  shown = λ later g. is later;
}

-- one row more
pub more_shown : (before after : OpenPages) (rows new : List Row) (row : Row) (cells : List TokenCell) (cell : TokenCell)
    → AreShown (open_texts before) rows cells → AddsRow before after row cell → new ≡ rows ++ row ∷ [] → AreShown (open_texts after) new (cells ++ cell ∷ [])
more_shown before after rows new row cells cell so_far adds is later g =
    ap (rows_view later) is
    ∙ (map-append (row_view later) rows (row ∷ []) ∙ ap₂ (λ x c. x ++ c ∷ []) (so_far later (grows_more (open_texts before) (open_texts after) later adds.grows g)) (adds.shown later g))

-- each page is the sheet of its format
pub page_is : (format : Format) (pages : Pages) (cells : List TokenCell) → AreSheets pages cells → page_for format pages ≡ sheet_for format cells
page_is Format.Css pages cells are = are.css
page_is Format.Android pages cells are = are.android
page_is Format.Swift pages cells are = are.swift
page_is Format.Json pages cells are = are.json
