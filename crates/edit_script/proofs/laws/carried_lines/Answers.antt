use Rattle.edit_script.proofs.Written.{line_carried}
use Rattle.edit_script.proofs.laws.carried_lines.Goals as goal

pub returns : goal.returns
returns c = line_carried
