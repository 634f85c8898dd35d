use Rattle.edit_script.proofs.Deltas.{deltas_make}
use Rattle.edit_script.proofs.laws.deltas_apply.Goals as goal

pub returns : goal.returns
returns c = deltas_make
