-- What is known of tokens that were evaluated earlier.
use Rattle.std.specs.Prelude.{◌≡◌, ℕ, ◌<◌, List, Option, Some, None}
use Rattle.std.specs.FinMap as finite
use Rattle.std.specs.List.{slice_get}
use Rattle.group_inherit.specs.Flattening.{TokenAt}
use Rattle.alias_ref.specs.Laws.{Flat}
use Rattle.tree_changes.specs.Named.{AllNameAs}
use Rattle.transforms.specs.Config.{Settings}
use Rattle.token_cells.specs.Cell.{IsCell, AreCells}
use Rattle.token_cells.specs.Evaluated.{KnownTree}
use Rattle.token_cells.specs.declared.earlier.KeptRows.{KeptRows}
use Rattle.token_cells.specs.declared.keeping.Kept.{Kept}
use Rattle.token_cells.specs.declared.row.Row.{Row}
use Rattle.token_cells.specs.inner.Blocks.{AreFrom}
use Rattle.token_cells.specs.inner.Kept.{PageTexts, kept_view, rows_view, texts_of}

-- a place that is kept is one of so many
abbrev pub IsWithin : ℕ → Option ℕ → Type 0
IsWithin many None = Unit {0}
IsWithin many (Some i) = i < many

-- what is kept for a token that keeps this place: the row there, if anything
abbrev pub IsKeptOf : PageTexts → List Row → Option ℕ → Option Kept → Type 0
IsKeptOf pages rows place None = Unit {0}
IsKeptOf pages rows place (Some kept) =
    (i : ℕ) × (place ≡ Some i) × (slice_get (rows_view pages rows) i ≡ Some (kept_view kept)) × (texts_of kept.pages.now ≡ pages)

-- the tokens of the flat tree come to what is kept at their places, where something is, and that stands in the same files
pub record AreKept (flat : Flat) (settings : Settings) (kepts : List (Option Kept)) : Type 0 where
  pub cells : (i : ℕ) (token : TokenAt) (kept : Kept) → slice_get (finite.entries flat) i ≡ Some token
      → slice_get kepts i ≡ Some (Some kept) → IsCell flat settings token.0 (kept_view kept)
  pub pages : PageTexts
  pub from : AreFrom pages kepts

-- .. and it is known which of them name no other
pub record IsKept (flat : Flat) (settings : Settings) (kept : KeptRows) : Type 0 where
  pub rows : AreKept flat settings kept.rows.items
  pub named : AllNameAs (finite.entries flat) kept.named.items

-- whose cells are those of its tokens
abbrev pub IsKnown : KnownTree → Type 0
IsKnown k = AreCells k.tree.tokens k.settings (finite.entries k.tree.tokens) k.tree.cells
