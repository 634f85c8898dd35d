use Rattle.alias_ref.proofs.PartsMean.{parts_mean}
use Rattle.alias_ref.proofs.laws.parts_mean.Goals as goal

pub returns : goal.returns
returns c = λ flat p q trail v b m. parts_mean flat b v m
