use Rattle.alias_ref.proofs.DifferencesDecided.{differ_decides}
use Rattle.alias_ref.proofs.laws.differ_decides.Goals as goal

pub returns : goal.returns
returns c = λ a b. differ_decides a b
