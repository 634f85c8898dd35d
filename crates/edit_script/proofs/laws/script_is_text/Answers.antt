use Rattle.edit_script.proofs.Spelled.{script_utf8}
use Rattle.edit_script.proofs.laws.script_is_text.Goals as goal

pub returns : goal.returns
returns c = script_utf8
