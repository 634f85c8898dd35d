-- The tokens of a flat tree that a change since an earlier one reaches.
use Rattle.std.specs.Prelude.{ℕ, Option}
use Rattle.std.specs.FinMap as finite
use Rattle.group_inherit.specs.Flattening.{TokenAt}
use Rattle.alias_ref.specs.Laws.{Flat}
use Rattle.transforms.specs.Config.{Settings}
use Rattle.token_cells.specs.Cell.{AreCells}
use Rattle.token_cells.specs.Evaluated.{EvaluatedTree}
use Rattle.rebuild_core.specs.Sums.{IsOneIf, IsSum}
use Rattle.rebuild_core.specs.Work.{IsReachedIn}

-- so many are; all where there is none
abbrev pub AreReached : Option Flat → Flat → ℕ → Type 0
AreReached old flat n = IsSum (λ (token : TokenAt). IsOneIf (IsReachedIn old flat token.0)) (finite.entries flat) n

-- the cells of a tree are those of its tokens
abbrev pub AreCellsOf : Settings → EvaluatedTree → Type 0
AreCellsOf settings tree = AreCells tree.tokens settings (finite.entries tree.tokens) tree.cells
