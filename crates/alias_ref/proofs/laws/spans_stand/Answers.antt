use Rattle.alias_ref.proofs.SpansStand.{spans_stand}
use Rattle.alias_ref.proofs.laws.spans_stand.Goals as goal

pub returns : goal.returns
returns c = spans_stand
