use Rattle.ring.proofs.Renamings.{value_named}
use Rattle.ring.proofs.laws.renamed_values.Goals as goal

pub returns : goal.returns
returns g c = λ name needs root needs' step step' v x r same h a. value_named name needs root needs' r step step' same v h a
