use Rattle.std.proofs.Common.{refl}
use Rattle.std.specs.Fmt.{decimal}
use Rattle.type_rules.specs.declared.fault.ValueRule.TheVariants.{BezierRange}
use Rattle.type_rules.specs.Checked.{under}
use Rattle.type_rules.specs.Ranges.{ranged, share}
use Rattle.type_rules.specs.Value.{ranged_curve}
use Rattle.type_rules.proofs.Breaks.{stays}
use Rattle.type_rules.proofs.curve.ranged_curve.Goals as goal

pub returns-in_err-x1-clause-broken : goal.returns-in_err-x1-clause-broken
unfolding ranged_curve
returns-in_err-x1-clause-broken c = stays (under (decimal 0) (ranged BezierRange share c.args.curve.x1)) _ _ _ c.from_residual.ensures.1 c.in_err-x1.ensures.broken

pub returns-in_err-x2-clause-broken : goal.returns-in_err-x2-clause-broken
unfolding ranged_curve
returns-in_err-x2-clause-broken c = rw c.in_ok-x1.ensures.ok (stays (under (decimal 2) (ranged BezierRange share c.args.curve.x2)) _ _ _ c.from_residual-in_err-x2.ensures.1 c.in_err-x2.ensures.broken)

pub returns-clause-ok : goal.returns-clause-ok
unfolding ranged_curve
returns-clause-ok c = rw (c.in_ok-x1.ensures.ok, c.in_ok-x2.ensures.ok) refl
