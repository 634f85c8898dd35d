use Rattle.std.proofs.Common.{refl}
use Rattle.json_span.specs.PlainView.{plain_view}
use Rattle.type_rules.specs.Forms.{number_in}
use Rattle.type_rules.specs.Value.{component_of_number}
use Rattle.type_rules.proofs.Breaks.{stays}
use Rattle.type_rules.proofs.components.component_of_number.Goals as goal

pub returns-in_err-number-clause-broken : goal.returns-in_err-number-clause-broken
unfolding component_of_number
returns-in_err-number-clause-broken c = stays (number_in (plain_view c.args.plain.now)) _ _ _ c.from_residual.ensures.1 c.in_err-number.ensures.broken

pub returns-clause-ok : goal.returns-clause-ok
unfolding component_of_number
returns-clause-ok c = rw c.in_ok-number.ensures.ok refl
