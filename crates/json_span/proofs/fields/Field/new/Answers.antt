use Rattle.std.proofs.Common.{rules}
use Rattle.json_span.specs.inner.Once.{one_member}
use Rattle.json_span.proofs.fields.Field.new.Goals as goal

pub returns : goal.returns
returns c = λ e p. search (rules, one_member)
