-- Cells as they are kept: rows, and the files in which their lines stand.
use Rattle.std.specs.Prelude.{ℕ, List, [], map, slice_range}
use Rattle.transforms.specs.Extent.{text_in}
use Rattle.transforms.specs.Frag.{Frag}
use Rattle.token_cells.specs.declared.format.Format.{Format}
use Rattle.token_cells.specs.declared.format.Format.TheVariants.{Css, Android, Swift, Json}
use Rattle.token_cells.specs.declared.keeping.Kept.{Kept}
use Rattle.token_cells.specs.declared.pages.OpenPages.{OpenPages}
use Rattle.token_cells.specs.declared.pages.Pages.{Pages}
use Rattle.token_cells.specs.declared.row.Fragments.{Fragments}
use Rattle.token_cells.specs.declared.row.Row.{Row}
use Rattle.token_cells.specs.declared.row.Row.TheVariants.{Broken, Unbroken}
use Rattle.token_cells.specs.declared.row.Run.{Run}
use Rattle.token_cells.specs.declared.row.Shown.{Shown}
use Rattle.token_cells.specs.TokenCell.{TokenCell, Refused, Made}

-- the texts of four files, and the names of all tokens
pub record PageTexts : Type 0 where
  pub css : List ℕ
  pub android : List ℕ
  pub swift : List ℕ
  pub json : List ℕ
  pub names : List (List ℕ)

abbrev pub texts_of : Pages → PageTexts
texts_of p = record { css = p.css; android = p.android; swift = p.swift; json = p.json; names = p.names }

-- .. of files that may still grow
abbrev pub open_texts : OpenPages → PageTexts
open_texts p = record { css = p.css.text; android = p.android.text; swift = p.swift.text; json = p.json.text; names = p.names }

abbrev pub page_for : Format → Pages → List ℕ
page_for Css p = p.css
page_for Android p = p.android
page_for Swift p = p.swift
page_for Json p = p.json

-- the names of the run
abbrev pub names_in : List (List ℕ) → Run → List (List ℕ)
names_in names run = slice_range names run.start run.end

-- what a token gives to a platform, whose lines stand in this text
abbrev pub fragment_in : List ℕ → List (List ℕ) → Shown → Frag
fragment_in text names shown = record { names = names_in names shown.names; body = text_in text shown.lines }

abbrev pub fragments_view : PageTexts → Fragments → TokenCell
fragments_view p f =
    Made (fragment_in p.css p.names f.css) (fragment_in p.android p.names f.android) (fragment_in p.swift p.names f.swift)
    (record { names = []; body = text_in p.json f.json })

abbrev pub row_view : PageTexts → Row → TokenCell
row_view p (Broken refusal) = Refused refusal.value.rule refusal.value.place refusal.value.ring
row_view p (Unbroken fragments) = fragments_view p fragments

abbrev pub rows_view : PageTexts → List Row → List TokenCell
rows_view p rows = map (row_view p) rows

abbrev pub kept_view : Kept → TokenCell
kept_view k = row_view (texts_of k.pages.now) k.row.now
