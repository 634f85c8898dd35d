use Rattle.alias_ref.proofs.VisitsInTurn.{visits_turn}
use Rattle.alias_ref.proofs.laws.visits_in_turn.Goals as goal

pub returns : goal.returns
returns c = visits_turn
