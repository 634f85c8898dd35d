use Rattle.std.proofs.Common.{rules, ap}
use Rattle.json_span.specs.Tree.{elements_in}
use Rattle.json_span.specs.inner.Once.{one_list}
use Rattle.json_span.proofs.items.Items.new.Goals as goal

pub returns : goal.returns
returns c = λ ns p. ap elements_in (search (rules, one_list))
