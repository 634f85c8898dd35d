use Rattle.edit_script.proofs.Deltas.{one_delta}
use Rattle.edit_script.proofs.laws.one_delta.Goals as goal

pub returns : goal.returns
returns c = one_delta
