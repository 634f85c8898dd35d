use Rattle.grammar.specs.Ranges.{ahead_of}
use Rattle.grammar.proofs.Decides.{decides}
use Rattle.grammar.proofs.Tables.{honest, steered_from}
use Rattle.grammar.proofs.steered_readings_end.Goals as goal

pub returns : goal.returns
returns g c = λ grammar table tests low guarded r st t. decides grammar (ahead_of table) (honest table grammar tests) low guarded r (steered_from table r st) t
