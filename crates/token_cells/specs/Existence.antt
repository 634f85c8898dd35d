-- Which flat trees and configurations there can be, and that each of their tokens comes to something.
use Rattle.std.specs.Prelude.{◌≡◌, ◌^◌, ◌≤◌, true, List, Some, All, length, unwrap_or}
use Rattle.std.specs.FinMap as finite
use Rattle.std.specs.Str.{IsUtf8}
use Rattle.json_span.specs.Spelling.{are_bytes}
use Rattle.token_tree.specs.Promise.{IsDefinition}
use Rattle.token_tree.specs.declared.mark.Mark.TheVariants.{No}
use Rattle.group_inherit.specs.Flattening.{Flattened}
use Rattle.alias_ref.specs.Laws.{Flat}
use Rattle.transforms.specs.Config.{Settings, AreAllowed}
use Rattle.json_out.specs.Sheets.{reason_of}
use Rattle.token_cells.specs.Cell.{TokenPath, IsCell, AreCells}
use Rattle.token_cells.specs.TokenCell.{TokenCell}

-- The token is defined by a text in memory: its definition is what its source shows, which is UTF-8 and has no more bytes
-- than memory has places, and the names of its path and the reason of the mark of its groups are texts.
pub record IsDefined (path : TokenPath) (f : Flattened) : Type 0 where
  pub definition : IsDefinition f.def
  pub utf8 : IsUtf8 f.def.source
  pub fits : length f.def.source ≤ 2 ^ 64
  pub names : All IsUtf8 path
  pub mark : are_bytes (reason_of (unwrap_or f.group_mark No)) ≡ true

-- each token of the tree
abbrev pub AreDefined : Flat → Type 0
AreDefined flat = (path : TokenPath) (f : Flattened) → finite.get flat path ≡ Some f → IsDefined path f

-- each token of such a tree comes to something under a configuration: it breaks a rule, or it gives something to each
-- platform
abbrev pub EachCell : Type 0
EachCell = (flat : Flat) (settings : Settings) → AreDefined flat → AreAllowed settings
    → (path : TokenPath) (f : Flattened) → finite.get flat path ≡ Some f
    → (cell : TokenCell) × IsCell flat settings path cell

-- and all of them, in their order
abbrev pub EachCells : Type 0
EachCells = (flat : Flat) (settings : Settings) → AreDefined flat → AreAllowed settings
    → (cells : List TokenCell) × AreCells flat settings (finite.entries flat) cells
