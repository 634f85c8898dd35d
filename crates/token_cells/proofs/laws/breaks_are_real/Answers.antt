use Rattle.token_cells.proofs.RealBreaks.{break_real, break_place}
use Rattle.token_cells.proofs.laws.breaks_are_real.Goals as goal

pub returns-clause-real : goal.returns-clause-real
returns-clause-real c = break_real c.breaks_are_real.ensures.ring c.breaks_are_real.ensures.told

pub returns-clause-places : goal.returns-clause-places
returns-clause-places c = λ flat settings path entry b at broken. break_place c.breaks_are_real.ensures.there flat settings path entry at b broken
