use Rattle.std.proofs.Common.{rules, ap}
use Rattle.json_span.specs.Tree.{entries_in}
use Rattle.json_span.specs.inner.Once.{one_object}
use Rattle.json_span.proofs.fields.Fields.new.Goals as goal

pub returns : goal.returns
returns c = λ ms p. ap entries_in (search (rules, one_object))
