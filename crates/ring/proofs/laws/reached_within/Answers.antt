use Rattle.ring.proofs.Within.{within}
use Rattle.ring.proofs.laws.reached_within.Goals as goal

pub returns : goal.returns
returns c = λ graph root v g h r. within graph root v g h r
