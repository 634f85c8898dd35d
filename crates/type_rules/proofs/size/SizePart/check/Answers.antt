use Rattle.std.proofs.Common.{refl}
use Rattle.json_span.specs.PlainView.{plain_view}
use Rattle.type_rules.specs.declared.fault.ValueRule.TheVariants.{DimensionUnit}
use Rattle.type_rules.specs.Words.{size_units}
use Rattle.type_rules.specs.Value.{measure_in, size_in}
use Rattle.type_rules.proofs.Breaks.{stays}
use Rattle.type_rules.proofs.size.SizePart.check.Goals as goal

pub returns-in_err-value-clause-broken : goal.returns-in_err-value-clause-broken
unfolding size_in
returns-in_err-value-clause-broken c = stays (measure_in c.args.legacy DimensionUnit size_units (plain_view c.args.plain.now)) _ _ _ c.from_residual.ensures.1 c.in_err-value.ensures.broken

pub returns-clause-ok : goal.returns-clause-ok
unfolding size_in
returns-clause-ok c = rw c.in_ok-value.ensures.ok refl
