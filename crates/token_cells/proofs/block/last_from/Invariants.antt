-- The rows so far stand one behind another.
use Rattle.token_cells.specs.inner.Blocks.{IsLine}
use Rattle.token_cells.specs.inner.Kept.{texts_of}
use Rattle.token_cells.proofs.block.last_from.Given as goal

abbrev pub invariant-loop-n : goal.invariant-loop-n
invariant-loop-n l = IsLine (texts_of l.pages) l.kepts l.i l.many l.first l.last l.n
