use Rattle.edit_script.proofs.Deltas.{pieces_record, pieces_stream}
use Rattle.edit_script.proofs.laws.pieces_are_whole.Goals as goal

pub returns : goal.returns
returns c = record { records = pieces_record; stream = pieces_stream }
