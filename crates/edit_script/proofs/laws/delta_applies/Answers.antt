use Rattle.edit_script.proofs.Deltas.{delta_makes}
use Rattle.edit_script.proofs.laws.delta_applies.Goals as goal

pub returns : goal.returns
returns c = delta_makes
