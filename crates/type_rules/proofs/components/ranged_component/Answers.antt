use Rattle.std.proofs.Common.{refl}
use Rattle.type_rules.specs.declared.fault.ValueRule.TheVariants.{ColorRange}
use Rattle.type_rules.specs.Ranges.{ranged}
use Rattle.type_rules.specs.Value.{ranged_component}
use Rattle.type_rules.proofs.Breaks.{stays}
use Rattle.type_rules.proofs.components.ranged_component.Goals as goal

pub returns-in_err-number-in-Some-clause-broken : goal.returns-in_err-number-in-Some-clause-broken
unfolding ranged_component
returns-in_err-number-in-Some-clause-broken c = rw c.in-Some.is (stays (ranged ColorRange c.args.range c.in-Some.number) _ _ _ c.from_residual.ensures.1 c.in_err-number-in-Some.ensures.broken)

pub returns-in_ok-number-in-Some-clause-ok : goal.returns-in_ok-number-in-Some-clause-ok
unfolding ranged_component
returns-in_ok-number-in-Some-clause-ok c = rw (c.in-Some.is, c.in_ok-number-in-Some.ensures.ok) refl

pub returns-in-None-clause-ok : goal.returns-in-None-clause-ok
unfolding ranged_component
returns-in-None-clause-ok c = rw c.in-None.is refl
