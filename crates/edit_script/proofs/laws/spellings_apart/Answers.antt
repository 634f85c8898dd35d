use Rattle.edit_script.proofs.Spelled.{same_front_event}
use Rattle.edit_script.proofs.laws.spellings_apart.Goals as goal

pub returns : goal.returns
returns c = same_front_event
