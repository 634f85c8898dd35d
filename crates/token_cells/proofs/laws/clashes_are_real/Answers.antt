use Rattle.token_cells.proofs.RealClashes.{clashes_real, unclashed_apart, apart_unclashed}
use Rattle.token_cells.proofs.laws.clashes_are_real.Goals as goal

pub returns-clause-real : goal.returns-clause-real
returns-clause-real c = clashes_real

pub returns-clause-apart : goal.returns-clause-apart
returns-clause-apart c = unclashed_apart c.clash_laws.ensures.apart

pub returns-clause-unclashed : goal.returns-clause-unclashed
returns-clause-unclashed c = apart_unclashed
