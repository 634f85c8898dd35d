-- What a style sheet denotes: each name of it has the value of its token, and no other.
use Rattle.token_cells.specs.declared.format.Format.TheVariants as Form
use Rattle.std.specs.Prelude.{◌≡◌, ℕ, List, []}
use Rattle.std.specs.FinMap as finite
use Rattle.std.specs.List.{AllByRecursion, AllZip, zip}
use Rattle.name_path.specs.Names.{IsTokenPath}
use Rattle.group_inherit.specs.Flattening.{TokenAt}
use Rattle.alias_ref.specs.Laws.{Flat}
use Rattle.transforms.specs.Config.{Settings}
use Rattle.ring.specs.Lists.{In, Each}
use Rattle.css_out.specs.Rounds.{Denotes}
use Rattle.css_out.specs.Sheets.{Cell, cell_entries, sheet_values, Refers}
use Rattle.token_cells.specs.Cell.{IsValueOf, AreCells}
use Rattle.token_cells.specs.Breaks.{token_reports}
use Rattle.token_cells.specs.Sheets.{sheet_for}
use Rattle.token_cells.specs.TokenCell.{TokenCell}

-- The sheet's bytes are read as one sheet, whose names, after 256 rounds, have exactly the values that the tokens of
-- the flat tree have: each token's value is what its whole value means, read under its kind. Each name that stands in
-- it for a part is one of a token with the part's value.
pub record SheetDenotes (flat : Flat) (settings : Settings) (bytes : List ℕ) : Type 0 where
  pub tokens : List Cell
  pub values : AllZip (λ token c. (c.path ≡ token.0) × IsValueOf flat settings token.0 c.typed c.links) (finite.entries flat) tokens
  pub denotes : Denotes bytes (sheet_values settings tokens)
  pub references : Each tokens (λ c. AllByRecursion (λ e. AllByRecursion (Refers settings tokens c) e.parts)
      (cell_entries settings c))

-- Cells without a break, of tokens at paths of the Format Module, give a sheet that denotes their tokens' values.
abbrev pub CellsDenote : Type 0
CellsDenote = (flat : Flat) (settings : Settings) (cells : List TokenCell)
    → AreCells flat settings (finite.entries flat) cells → token_reports flat (zip (finite.entries flat) cells) ≡ []
    → ((token : TokenAt) → In token (finite.entries flat) → IsTokenPath token.0)
    → SheetDenotes flat settings (sheet_for Form.Css cells)
