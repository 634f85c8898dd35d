-- The sink behind is as it is given.
use Rattle.std.proofs.Common.{Some}
use Rattle.low_tests.proofs.gathering_tests.hands_on.Given as goal

abbrev pub ghosts-handed_on : goal.ghosts-handed_on
ghosts-handed_on a = record { written = Some a.out.written; faults = a.out.faults }
