use Rattle.edit_script.proofs.Standing.{one_files}
use Rattle.edit_script.proofs.file_laws.one_map.Goals as goal

pub returns : goal.returns
returns c = one_files
