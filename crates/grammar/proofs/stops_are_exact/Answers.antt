use Rattle.grammar.specs.Ranges.{ahead_of}
use Rattle.grammar.proofs.Refusals.{refuses}
use Rattle.grammar.proofs.Tables.{honest, steered_from}
use Rattle.grammar.proofs.stops_are_exact.Goals as goal

pub returns : goal.returns
returns g c = λ grammar table tests ok r each st text at s. refuses grammar (ahead_of table) (honest table grammar tests) ok.spelled ok.passes r text at each (steered_from table r st) s
