-- What a token adds to the files of a flat tree (the pages): its lines and its names, behind those of the tokens before it.
use Rattle.std.specs.Prelude.{◌≡◌, ℕ, List, [], ◌∷◌, ◌++◌, flat_map}
use Rattle.tk_io.specs.Writing.{Extends}
use Rattle.transforms.specs.Extent.{text_in}
use Rattle.transforms.specs.Frag.{Frag}
use Rattle.transforms.specs.Sheet.{Gains, Holds, OpenSheet}
use Rattle.transforms.specs.declared.extent.Extent.{Extent}
use Rattle.token_cells.specs.declared.format.Format.{Format}
use Rattle.token_cells.specs.declared.format.Format.TheVariants.{Css, Android, Swift, Json}
use Rattle.token_cells.specs.declared.pages.OpenPages.{OpenPages}
use Rattle.token_cells.specs.declared.pages.Pages.{Pages}
use Rattle.token_cells.specs.declared.row.Row.{Row}
use Rattle.token_cells.specs.declared.row.Run.{Run}
use Rattle.token_cells.specs.declared.row.Shown.{Shown}
use Rattle.token_cells.specs.Sheets.{bodies_for, frame_for, sheet_for}
use Rattle.token_cells.specs.TokenCell.{TokenCell}
use Rattle.token_cells.specs.inner.Kept.{PageTexts, open_texts, names_in, row_view, rows_view}

-- the names are those there were, and maybe more behind them
abbrev pub ExtendsNames : List (List ℕ) → List (List ℕ) → Type 0
ExtendsNames old new = (more : List (List ℕ)) × (new ≡ old ++ more)

-- what stands in the files stays, and maybe more comes behind it
pub record Grows (old new : PageTexts) : Type 0 where
  pub css : Extends old.css new.css
  pub android : Extends old.android new.android
  pub swift : Extends old.swift new.swift
  pub json : Extends old.json new.json
  pub names : ExtendsNames old.names new.names

-- the names are those of the run, whatever names come behind
abbrev pub AreNamesAt : List (List ℕ) → Run → List (List ℕ) → Type 0
AreNamesAt all run names = (later : List (List ℕ)) → ExtendsNames all later → names_in later run ≡ names

-- names came behind those there were, if any, and these are those of the run
pub record AddsNames (before after : List (List ℕ)) (run : Run) (names : List (List ℕ)) : Type 0 where
  pub grows : ExtendsNames before after
  pub there : AreNamesAt after run names

-- the sheet has one body more, which stands there, whatever comes behind it
pub record AddsBody (before after : OpenSheet) (extent : Extent) (body : List ℕ) : Type 0 where
  pub gains : Gains before after body
  pub grows : Extends before.text after.text
  pub there : (later : List ℕ) → Extends after.text later → text_in later extent ≡ body

-- .. and the names are added too
pub record AddsFrag (sheet-0 sheet-1 : OpenSheet) (names-0 names-1 : List (List ℕ)) (shown : Shown) (frag : Frag) : Type 0 where
  pub body : AddsBody sheet-0 sheet-1 shown.lines frag.body
  pub names : AddsNames names-0 names-1 shown.names frag.names

-- the sheet is of this format, and has the lines of these cells
abbrev pub HoldsCells : Format → OpenSheet → List TokenCell → Type 0
HoldsCells format sheet cells = Holds sheet (frame_for format) (flat_map (bodies_for format) cells)

-- the files have the lines of these cells
pub record HoldAll (pages : OpenPages) (cells : List TokenCell) : Type 0 where
  pub css : HoldsCells Css pages.css cells
  pub android : HoldsCells Android pages.android cells
  pub swift : HoldsCells Swift pages.swift cells
  pub json : HoldsCells Json pages.json cells

-- a cell was added to the files, and the row shows it, whatever comes behind
pub record AddsRow (before after : OpenPages) (row : Row) (cell : TokenCell) : Type 0 where
  pub holds : (cells : List TokenCell) → HoldAll before cells → HoldAll after (cells ++ cell ∷ [])
  pub grows : Grows (open_texts before) (open_texts after)
  pub shown : (later : PageTexts) → Grows (open_texts after) later → row_view later row ≡ cell

-- the rows show the cells, whatever comes behind
abbrev pub AreShown : PageTexts → List Row → List TokenCell → Type 0
AreShown pages rows cells = (later : PageTexts) → Grows pages later → rows_view later rows ≡ cells

-- the files are those of the cells
pub record AreSheets (pages : Pages) (cells : List TokenCell) : Type 0 where
  pub css : pages.css ≡ sheet_for Css cells
  pub android : pages.android ≡ sheet_for Android cells
  pub swift : pages.swift ≡ sheet_for Swift cells
  pub json : pages.json ≡ sheet_for Json cells
