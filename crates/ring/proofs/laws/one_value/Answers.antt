use Rattle.ring.proofs.Unique.{same_value}
use Rattle.ring.proofs.laws.one_value.Goals as goal

pub returns : goal.returns
returns g c = λ needs step v x y a b. same_value needs step v a b
