use Rattle.alias_ref.proofs.LimitsAreReal.{visits_visited}
use Rattle.alias_ref.proofs.laws.visits_are_visited.Goals as goal

pub returns : goal.returns
returns c = visits_visited
