use Rattle.dec_fix.proofs.SameNumber.{same_once}
use Rattle.dec_fix.proofs.laws.one_value.Goals as goal

pub returns : goal.returns
returns c = same_once
