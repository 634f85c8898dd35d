use Rattle.file_plan.proofs.FilesInUse.{wanted_are_in_use}
use Rattle.file_plan.proofs.laws.in_use_laws.Goals as goal

pub returns : goal.returns
returns c = wanted_are_in_use
