-- As many steps were counted as are behind.
use Rattle.std.proofs.Common.{◌≡◌, ◌+◌}
use Rattle.token_cells.proofs.gathering.tick_all.Given as goal

abbrev pub invariant-loop-i : goal.invariant-loop-i
invariant-loop-i g l = l.evals ≡ l.fn.evals + l._i
