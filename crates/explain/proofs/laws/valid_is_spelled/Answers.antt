use Rattle.explain.proofs.LinesFit.{valid_spelled}
use Rattle.explain.proofs.laws.valid_is_spelled.Goals as goal

pub returns : goal.returns
returns c = valid_spelled
