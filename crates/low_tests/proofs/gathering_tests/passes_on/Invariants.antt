-- The sink behind is as it is given.
use Rattle.std.proofs.Common.{Some}
use Rattle.low_tests.proofs.gathering_tests.passes_on.Given as goal

abbrev pub ghosts-passed_on : goal.ghosts-passed_on
ghosts-passed_on a = record { written = Some a.out.written; faults = a.out.faults }
