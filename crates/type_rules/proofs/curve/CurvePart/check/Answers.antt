use Rattle.json_span.specs.PlainView.{plain_view}
use Rattle.type_rules.specs.Value.{four_numbers}
use Rattle.type_rules.specs.Value.{curve_in}
use Rattle.type_rules.proofs.Breaks.{stays}
use Rattle.type_rules.proofs.curve.CurvePart.check.Goals as goal

pub returns-in_err-curve-clause-broken : goal.returns-in_err-curve-clause-broken
unfolding curve_in
returns-in_err-curve-clause-broken c = stays (four_numbers (plain_view c.args.plain.now)) _ _ _ c.from_residual.ensures.1 c.in_err-curve.ensures.broken

pub returns-clause-ok : goal.returns-clause-ok
unfolding curve_in
returns-clause-ok c = rw c.in_ok-curve.ensures.ok c.ranged_curve.ensures.ok

pub returns-clause-broken : goal.returns-clause-broken
unfolding curve_in
returns-clause-broken c = rw c.in_ok-curve.ensures.ok c.ranged_curve.ensures.broken
