use Rattle.edit_script.proofs.Readings.{in_second}
use Rattle.edit_script.proofs.laws.second_version.Goals as goal

pub returns : goal.returns
returns c = in_second
