use Rattle.ring.proofs.Unique.{same_total}
use Rattle.ring.proofs.laws.one_total.Goals as goal

pub returns : goal.returns
returns c = λ needs own v total other s t. same_total needs own v total other s t
