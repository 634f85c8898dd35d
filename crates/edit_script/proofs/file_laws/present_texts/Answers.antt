use Rattle.edit_script.proofs.Standing.{present_same}
use Rattle.edit_script.proofs.file_laws.present_texts.Goals as goal

pub returns : goal.returns
returns c = present_same
