use Rattle.ring.proofs.Once.{same_ring}
use Rattle.ring.proofs.laws.one_ring.Goals as goal

pub returns : goal.returns
returns g c = λ needs root ring other r s. same_ring needs root ring other r s
