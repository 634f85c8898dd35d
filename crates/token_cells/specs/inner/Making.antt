-- What a token gives whose value is known.
use Rattle.group_inherit.specs.Flattening.{Flattened}
use Rattle.std.specs.Prelude.{ℕ, List, []}
use Rattle.name_path.specs.declared.link.Link.{Link}
use Rattle.composite_rules.specs.declared.typed.Typed.{Typed}
use Rattle.transforms.specs.Config.{Settings}
use Rattle.transforms.specs.Frag.{Frag}
use Rattle.transforms.specs.Sheet.{OpenSheet}
use Rattle.transforms.specs.declared.extent.Extent.{Extent}
use Rattle.token_cells.specs.declared.pages.OpenPages.{OpenPages}
use Rattle.token_cells.specs.declared.row.Row.{Row}
use Rattle.token_cells.specs.declared.row.Shown.{Shown}
use Rattle.token_cells.specs.Cell.{TokenPath, GivesAll}
use Rattle.token_cells.specs.TokenCell.{TokenCell, Refused, Made}
use Rattle.token_cells.specs.inner.AddedToPages.{AddsBody, AddsFrag, AddsRow}

abbrev pub IsMadeOf : Settings → TokenPath → Flattened → List Link → Typed → TokenCell → Type 0
IsMadeOf settings path entry links typed (Refused rule place ring) = ⊥
IsMadeOf settings path entry links typed (Made css android ios json) =
    GivesAll settings path entry typed links css android ios json

-- such a fragment was added to the file, and its names to those of all tokens
abbrev pub Adds : (Frag → Type 0) → OpenSheet → OpenSheet → List (List ℕ) → List (List ℕ) → Shown → Type 0
Adds Is sheet-0 sheet-1 names-0 names-1 shown = (frag : Frag) × Is frag × AddsFrag sheet-0 sheet-1 names-0 names-1 shown frag

-- .. without names
abbrev pub AddsJson : (Frag → Type 0) → OpenSheet → OpenSheet → Extent → Type 0
AddsJson Is before after extent = (body : List ℕ) × Is (record { names = []; body = body }) × AddsBody before after extent body

-- such a cell was added to the files, which the row shows
abbrev pub ComesTo : (TokenCell → Type 0) → OpenPages → OpenPages → Row → Type 0
ComesTo Is before after row = (cell : TokenCell) × Is cell × AddsRow before after row cell
