use Rattle.edit_script.proofs.Standing.{up_to_here}
use Rattle.edit_script.proofs.file_laws.up_to_commit.Goals as goal

pub returns : goal.returns
returns c = up_to_here
