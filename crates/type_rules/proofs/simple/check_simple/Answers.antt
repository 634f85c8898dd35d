use Rattle.std.proofs.Common.{refl}
use Rattle.json_span.specs.PlainView.{plain_view}
use Rattle.type_rules.specs.Forms.{number_in}
use Rattle.type_rules.specs.Value.{color_in, size_in, families_in, weight_in, time_in, curve_in, simple_value}
use Rattle.type_rules.proofs.Breaks.{stays}
use Rattle.type_rules.proofs.simple.check_simple.Goals as goal

pub returns-in_err-check-in-Color-clause-broken : goal.returns-in_err-check-in-Color-clause-broken
unfolding simple_value
returns-in_err-check-in-Color-clause-broken c = rw c.in-Color.is (stays (color_in c.args.legacy (plain_view c.args.plain.now)) _ _ _ c.from_residual.ensures.1 c.in_err-check-in-Color.ensures.broken)

pub returns-in_ok-check-in-Color-clause-ok : goal.returns-in_ok-check-in-Color-clause-ok
unfolding simple_value
returns-in_ok-check-in-Color-clause-ok c = rw (c.in-Color.is, c.in_ok-check-in-Color.ensures.ok) refl

pub returns-in_err-check-in-Dimension-clause-broken : goal.returns-in_err-check-in-Dimension-clause-broken
unfolding simple_value
returns-in_err-check-in-Dimension-clause-broken c = rw c.in-Dimension.is (stays (size_in c.args.legacy (plain_view c.args.plain.now)) _ _ _ c.from_residual-in_err-check-in-Dimension.ensures.1 c.in_err-check-in-Dimension.ensures.broken)

pub returns-in_ok-check-in-Dimension-clause-ok : goal.returns-in_ok-check-in-Dimension-clause-ok
unfolding simple_value
returns-in_ok-check-in-Dimension-clause-ok c = rw (c.in-Dimension.is, c.in_ok-check-in-Dimension.ensures.ok) refl

pub returns-in_err-check-in-FontFamily-clause-broken : goal.returns-in_err-check-in-FontFamily-clause-broken
unfolding simple_value
returns-in_err-check-in-FontFamily-clause-broken c = rw c.in-FontFamily.is (stays (families_in (plain_view c.args.plain.now)) _ _ _ c.from_residual-in_err-check-in-FontFamily.ensures.1 c.in_err-check-in-FontFamily.ensures.broken)

pub returns-in_ok-check-in-FontFamily-clause-ok : goal.returns-in_ok-check-in-FontFamily-clause-ok
unfolding simple_value
returns-in_ok-check-in-FontFamily-clause-ok c = rw (c.in-FontFamily.is, c.in_ok-check-in-FontFamily.ensures.ok) refl

pub returns-in_err-check-in-FontWeight-clause-broken : goal.returns-in_err-check-in-FontWeight-clause-broken
unfolding simple_value
returns-in_err-check-in-FontWeight-clause-broken c = rw c.in-FontWeight.is (stays (weight_in (plain_view c.args.plain.now)) _ _ _ c.from_residual-in_err-check-in-FontWeight.ensures.1 c.in_err-check-in-FontWeight.ensures.broken)

pub returns-in_ok-check-in-FontWeight-clause-ok : goal.returns-in_ok-check-in-FontWeight-clause-ok
unfolding simple_value
returns-in_ok-check-in-FontWeight-clause-ok c = rw (c.in-FontWeight.is, c.in_ok-check-in-FontWeight.ensures.ok) refl

pub returns-in_err-check-in-Duration-clause-broken : goal.returns-in_err-check-in-Duration-clause-broken
unfolding simple_value
returns-in_err-check-in-Duration-clause-broken c = rw c.in-Duration.is (stays (time_in c.args.legacy (plain_view c.args.plain.now)) _ _ _ c.from_residual-in_err-check-in-Duration.ensures.1 c.in_err-check-in-Duration.ensures.broken)

pub returns-in_ok-check-in-Duration-clause-ok : goal.returns-in_ok-check-in-Duration-clause-ok
unfolding simple_value
returns-in_ok-check-in-Duration-clause-ok c = rw (c.in-Duration.is, c.in_ok-check-in-Duration.ensures.ok) refl

pub returns-in_err-check-in-CubicBezier-clause-broken : goal.returns-in_err-check-in-CubicBezier-clause-broken
unfolding simple_value
returns-in_err-check-in-CubicBezier-clause-broken c = rw c.in-CubicBezier.is (stays (curve_in (plain_view c.args.plain.now)) _ _ _ c.from_residual-in_err-check-in-CubicBezier.ensures.1 c.in_err-check-in-CubicBezier.ensures.broken)

pub returns-in_ok-check-in-CubicBezier-clause-ok : goal.returns-in_ok-check-in-CubicBezier-clause-ok
unfolding simple_value
returns-in_ok-check-in-CubicBezier-clause-ok c = rw (c.in-CubicBezier.is, c.in_ok-check-in-CubicBezier.ensures.ok) refl

pub returns-in_err-check_number-in-Number-clause-broken : goal.returns-in_err-check_number-in-Number-clause-broken
unfolding simple_value
returns-in_err-check_number-in-Number-clause-broken c = rw c.in-Number.is (stays (number_in (plain_view c.args.plain.now)) _ _ _ c.from_residual-in_err-check_number-in-Number.ensures.1 c.in_err-check_number-in-Number.ensures.broken)

pub returns-in_ok-check_number-in-Number-clause-ok : goal.returns-in_ok-check_number-in-Number-clause-ok
unfolding simple_value
returns-in_ok-check_number-in-Number-clause-ok c = rw (c.in-Number.is, c.in_ok-check_number-in-Number.ensures.ok) refl
