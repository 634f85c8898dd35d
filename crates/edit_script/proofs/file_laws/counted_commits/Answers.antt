use Rattle.edit_script.proofs.Standing.{count_parts}
use Rattle.edit_script.proofs.file_laws.counted_commits.Goals as goal

pub returns : goal.returns
returns c = count_parts
