use Rattle.grammar.specs.Ranges.{ahead_of}
use Rattle.grammar.proofs.Predicts.{same_end}
use Rattle.grammar.proofs.Tables.{honest, steered_from}
use Rattle.grammar.proofs.steered_reads_once.Goals as goal

pub returns : goal.returns
returns g c = λ grammar table tests r st t u v x y hu hv. same_end grammar (ahead_of table) (honest table grammar tests) x y (steered_from table r st) hu hv
