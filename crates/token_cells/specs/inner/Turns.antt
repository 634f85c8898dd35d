-- Tokens that were added to files, one after another.
use Rattle.std.specs.Prelude.{List}
use Rattle.group_inherit.specs.Flattening.{TokenAt}
use Rattle.alias_ref.specs.Laws.{Flat}
use Rattle.transforms.specs.Config.{Settings}
use Rattle.token_cells.specs.Cell.{AreCells}
use Rattle.token_cells.specs.TokenCell.{TokenCell}
use Rattle.token_cells.specs.declared.gathering.Growing.{Growing}
use Rattle.token_cells.specs.inner.AddedToPages.{AreShown, HoldAll}
use Rattle.token_cells.specs.inner.Kept.{open_texts}
use Rattle.token_cells.specs.inner.Typing.{AreTyped}

-- these tokens were added: the files and the rows show what they come to, and what is known of values is right
pub record HasAdded (flat : Flat) (settings : Settings) (tokens : List TokenAt) (g : Growing) : Type 0 where
  pub cells : List TokenCell
  pub are : AreCells flat settings tokens cells
  pub hold : HoldAll g.pages cells
  pub shown : AreShown (open_texts g.pages) g.rows.items cells
  pub typed : AreTyped flat settings g.bench.values.known.items
