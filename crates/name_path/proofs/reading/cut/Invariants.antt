use Rattle.std.proofs.Common.{take}
use Rattle.name_path.specs.Reference.{value_step}
use Rattle.name_path.specs.inner.Pieces.{LacksStep}
use Rattle.name_path.proofs.reading.cut.Given as goal

abbrev pub invariant-loop-at : goal.invariant-loop-at
invariant-loop-at l = LacksStep value_step (take l.at l.steps)
