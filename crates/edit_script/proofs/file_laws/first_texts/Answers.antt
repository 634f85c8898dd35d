use Rattle.edit_script.proofs.Standing.{texts_first}
use Rattle.edit_script.proofs.file_laws.first_texts.Goals as goal

pub returns : goal.returns
returns c = texts_first
