use Rattle.json_span.specs.PlainView.{plain_view}
use Rattle.type_rules.specs.Value.{three_components}
use Rattle.type_rules.specs.Value.{components_in}
use Rattle.type_rules.proofs.Breaks.{stays}
use Rattle.type_rules.proofs.components.components_of.Goals as goal

pub returns-in_err-components-clause-broken : goal.returns-in_err-components-clause-broken
unfolding components_in
returns-in_err-components-clause-broken c = stays (three_components (plain_view c.args.plain.now)) _ _ _ c.from_residual.ensures.1 c.in_err-components.ensures.broken

pub returns-clause-ok : goal.returns-clause-ok
unfolding components_in
returns-clause-ok c = rw c.in_ok-components.ensures.ok (rw c.ranges-2.ensures at c.ranged_components.ensures.ok)

pub returns-clause-broken : goal.returns-clause-broken
unfolding components_in
returns-clause-broken c = rw c.in_ok-components.ensures.ok (rw c.ranges-2.ensures at c.ranged_components.ensures.broken)
