use Rattle.grammar.proofs.GoingOn.{goes_on}
use Rattle.grammar.proofs.fronts_go_on.Goals as goal

pub returns : goal.returns
returns g c = λ test grammar ok r begins t f. goes_on test grammar ok f begins
