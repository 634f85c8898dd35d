use Rattle.std.proofs.Common.{refl}
use Rattle.json_span.specs.PlainView.{plain_view}
use Rattle.type_rules.specs.declared.fault.ValueRule.TheVariants.{DurationUnit}
use Rattle.type_rules.specs.Words.{time_units}
use Rattle.type_rules.specs.Value.{measure_in, time_in}
use Rattle.type_rules.proofs.Breaks.{stays}
use Rattle.type_rules.proofs.time.TimePart.check.Goals as goal

pub returns-in_err-value-clause-broken : goal.returns-in_err-value-clause-broken
unfolding time_in
returns-in_err-value-clause-broken c = stays (measure_in c.args.legacy DurationUnit time_units (plain_view c.args.plain.now)) _ _ _ c.from_residual.ensures.1 c.in_err-value.ensures.broken

pub returns-clause-ok : goal.returns-clause-ok
unfolding time_in
returns-clause-ok c = rw c.in_ok-value.ensures.ok refl
