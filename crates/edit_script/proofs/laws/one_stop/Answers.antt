use Rattle.edit_script.proofs.Readings.{same_stop}
use Rattle.edit_script.proofs.laws.one_stop.Goals as goal

pub returns : goal.returns
returns c = same_stop
