use Rattle.alias_ref.proofs.MeaningsFit.{means_fit}
use Rattle.alias_ref.proofs.laws.meanings_fit.Goals as goal

pub returns : goal.returns
returns c = λ flat n all few p v m. means_fit n flat all few m
