-- The tokens so far were added, each in one step.
use Rattle.std.proofs.Common.{◌≡◌, ◌+◌, ◌-◌, ◌≤◌, length, take}
use Rattle.token_cells.specs.inner.Turns.{HasAdded}
use Rattle.token_cells.proofs.gathering.Growing.add_all.Given as goal

abbrev pub decreases-loop-i : goal.decreases-loop-i
decreases-loop-i g l = length l.tokens - l.i

abbrev pub invariant-loop-i : goal.invariant-loop-i
invariant-loop-i g l =
    HasAdded l.flat l.cfg (take l.i l.tokens) l.self × (l.evaluator ≡ l.flat) × (l.evals ≡ l.initial.evals + l.i) × (l.i ≤ length l.tokens)
