-- Nothing more is known.
use Rattle.std.proofs.Common.{◌-◌, suc, length}
use Rattle.token_cells.specs.inner.Typing.{AreStill}
use Rattle.token_cells.proofs.typing.TypedValues.reach.Given as goal

abbrev pub invariant-loop-self : goal.invariant-loop-self
invariant-loop-self l = AreStill l.initial.self.known.items l.self.known.items

abbrev pub decreases-loop-self : goal.decreases-loop-self
decreases-loop-self l = suc l.i - length l.self.known.items
