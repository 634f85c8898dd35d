use Rattle.ring.proofs.ValuesExist.{has_value}
use Rattle.ring.proofs.laws.grounded_values.Goals as goal

pub returns : goal.returns
returns g c = λ needs step v h. has_value needs step v h
