use Rattle.std.proofs.Common.{refl}
use Rattle.json_span.specs.PlainView.{plain_view}
use Rattle.type_rules.proofs.Breaks.{stays}
use Rattle.composite_rules.specs.Value.{stroke_in, border_in, transition_in, shadows_in, gradient_in, typography_in, value_of}
use Rattle.composite_rules.proofs.typed.check.Goals as goal

pub returns-in_err-check-in-StrokeStyle-clause-broken : goal.returns-in_err-check-in-StrokeStyle-clause-broken
unfolding value_of
returns-in_err-check-in-StrokeStyle-clause-broken c = rw c.in-StrokeStyle.is (stays (stroke_in c.args.legacy (plain_view c.args.plain.now)) _ _ _ c.from_residual.ensures.1 c.in_err-check-in-StrokeStyle.ensures.broken)

pub returns-in_ok-check-in-StrokeStyle-clause-ok : goal.returns-in_ok-check-in-StrokeStyle-clause-ok
unfolding value_of
returns-in_ok-check-in-StrokeStyle-clause-ok c = rw (c.in-StrokeStyle.is, c.in_ok-check-in-StrokeStyle.ensures.ok) refl

pub returns-in_err-check-in-Border-clause-broken : goal.returns-in_err-check-in-Border-clause-broken
unfolding value_of
returns-in_err-check-in-Border-clause-broken c = rw c.in-Border.is (stays (border_in c.args.legacy (plain_view c.args.plain.now)) _ _ _ c.from_residual-in_err-check-in-Border.ensures.1 c.in_err-check-in-Border.ensures.broken)

pub returns-in_ok-check-in-Border-clause-ok : goal.returns-in_ok-check-in-Border-clause-ok
unfolding value_of
returns-in_ok-check-in-Border-clause-ok c = rw (c.in-Border.is, c.in_ok-check-in-Border.ensures.ok) refl

pub returns-in_err-check-in-Transition-clause-broken : goal.returns-in_err-check-in-Transition-clause-broken
unfolding value_of
returns-in_err-check-in-Transition-clause-broken c = rw c.in-Transition.is (stays (transition_in c.args.legacy (plain_view c.args.plain.now)) _ _ _ c.from_residual-in_err-check-in-Transition.ensures.1 c.in_err-check-in-Transition.ensures.broken)

pub returns-in_ok-check-in-Transition-clause-ok : goal.returns-in_ok-check-in-Transition-clause-ok
unfolding value_of
returns-in_ok-check-in-Transition-clause-ok c = rw (c.in-Transition.is, c.in_ok-check-in-Transition.ensures.ok) refl

pub returns-in_err-shadows_of-in-Shadow-clause-broken : goal.returns-in_err-shadows_of-in-Shadow-clause-broken
unfolding value_of
returns-in_err-shadows_of-in-Shadow-clause-broken c = rw c.in-Shadow.is (stays (shadows_in c.args.legacy (plain_view c.args.plain.now)) _ _ _ c.from_residual-in_err-shadows_of-in-Shadow.ensures.1 c.in_err-shadows_of-in-Shadow.ensures.broken)

pub returns-in_ok-shadows_of-in-Shadow-clause-ok : goal.returns-in_ok-shadows_of-in-Shadow-clause-ok
unfolding value_of
returns-in_ok-shadows_of-in-Shadow-clause-ok c = rw (c.in-Shadow.is, c.in_ok-shadows_of-in-Shadow.ensures.ok) refl

pub returns-in_err-stops_of-in-Gradient-clause-broken : goal.returns-in_err-stops_of-in-Gradient-clause-broken
unfolding value_of
returns-in_err-stops_of-in-Gradient-clause-broken c = rw c.in-Gradient.is (stays (gradient_in c.args.legacy (plain_view c.args.plain.now)) _ _ _ c.from_residual-in_err-stops_of-in-Gradient.ensures.1 c.in_err-stops_of-in-Gradient.ensures.broken)

pub returns-in_ok-stops_of-in-Gradient-clause-ok : goal.returns-in_ok-stops_of-in-Gradient-clause-ok
unfolding value_of
returns-in_ok-stops_of-in-Gradient-clause-ok c = rw (c.in-Gradient.is, c.in_ok-stops_of-in-Gradient.ensures.ok) refl

pub returns-in_err-check-in-Typography-clause-broken : goal.returns-in_err-check-in-Typography-clause-broken
unfolding value_of
returns-in_err-check-in-Typography-clause-broken c = rw c.in-Typography.is (stays (typography_in c.args.legacy (plain_view c.args.plain.now)) _ _ _ c.from_residual-in_err-check-in-Typography.ensures.1 c.in_err-check-in-Typography.ensures.broken)

pub returns-in_ok-check-in-Typography-clause-ok : goal.returns-in_ok-check-in-Typography-clause-ok
unfolding value_of
returns-in_ok-check-in-Typography-clause-ok c = rw (c.in-Typography.is, c.in_ok-check-in-Typography.ensures.ok) refl
