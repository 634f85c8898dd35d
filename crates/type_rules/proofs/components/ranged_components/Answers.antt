use Rattle.std.proofs.Common.{refl}
use Rattle.std.specs.Fmt.{decimal}
use Rattle.type_rules.specs.Checked.{under}
use Rattle.type_rules.specs.Value.{ranged_component}
use Rattle.type_rules.specs.Value.{ranged_components}
use Rattle.type_rules.proofs.Breaks.{stays}
use Rattle.type_rules.proofs.components.ranged_components.Goals as goal

pub returns-in_err-first-clause-broken : goal.returns-in_err-first-clause-broken
unfolding ranged_components
returns-in_err-first-clause-broken c = stays (under (decimal 0) (ranged_component c.args.ranges.first c.args.components.first)) _ _ _ c.from_residual.ensures.1 c.in_err-first.ensures.broken

pub returns-in_err-second-clause-broken : goal.returns-in_err-second-clause-broken
unfolding ranged_components
returns-in_err-second-clause-broken c = rw c.in_ok-first.ensures.ok (stays (under (decimal 1) (ranged_component c.args.ranges.second c.args.components.second)) _ _ _ c.from_residual-in_err-second.ensures.1 c.in_err-second.ensures.broken)

pub returns-in_err-third-clause-broken : goal.returns-in_err-third-clause-broken
unfolding ranged_components
returns-in_err-third-clause-broken c = rw (c.in_ok-first.ensures.ok, c.in_ok-second.ensures.ok) (stays (under (decimal 2) (ranged_component c.args.ranges.third c.args.components.third)) _ _ _ c.from_residual-in_err-third.ensures.1 c.in_err-third.ensures.broken)

pub returns-clause-ok : goal.returns-clause-ok
unfolding ranged_components
returns-clause-ok c = rw (c.in_ok-first.ensures.ok, c.in_ok-second.ensures.ok, c.in_ok-third.ensures.ok) refl
