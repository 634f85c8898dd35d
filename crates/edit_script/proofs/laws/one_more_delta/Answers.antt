use Rattle.edit_script.proofs.Deltas.{one_more_delta}
use Rattle.edit_script.proofs.laws.one_more_delta.Goals as goal

pub returns : goal.returns
returns c = one_more_delta
