use Rattle.std.proofs.Common.{rules}
use Rattle.json_span.specs.inner.Once.{one_value_there}
use Rattle.json_span.proofs.node_ref.NodeRef.new.Goals as goal

pub returns : goal.returns
returns c = λ a z t p. search (rules, one_value_there)
