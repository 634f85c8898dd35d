use Rattle.std.proofs.Common.{refl, codes}
use Rattle.json_span.specs.PlainView.{plain_view, plain_fields_view}
use Rattle.type_rules.specs.Forms.{members_in, number_in, member}
use Rattle.type_rules.specs.Value.{color_in}
use Rattle.type_rules.proofs.Breaks.{stays}
use Rattle.composite_rules.specs.Value.{stop_in}
use Rattle.composite_rules.proofs.gradient.ColorStopPart.check.Goals as goal

pub returns-in_err-members-clause-broken : goal.returns-in_err-members-clause-broken
unfolding stop_in
returns-in_err-members-clause-broken c = stays (members_in (plain_view c.args.plain.now)) _ _ _ c.from_residual.ensures.1 c.in_err-members.ensures.broken

pub returns-in_err-color-clause-broken : goal.returns-in_err-color-clause-broken
unfolding stop_in
returns-in_err-color-clause-broken c = rw c.in_ok-members.ensures.ok (stays (member (color_in c.args.legacy) (codes "color") (plain_fields_view c.in_ok-members.members.now)) _ _ _ c.from_residual-in_err-color.ensures.1 c.in_err-color.ensures.broken)

pub returns-in_err-position-clause-broken : goal.returns-in_err-position-clause-broken
unfolding stop_in
returns-in_err-position-clause-broken c = rw (c.in_ok-members.ensures.ok, c.in_ok-color.ensures.ok) (stays (member number_in (codes "position") (plain_fields_view c.in_ok-members.members.now)) _ _ _ c.from_residual-in_err-position.ensures.1 c.in_err-position.ensures.broken)

pub returns-clause-ok : goal.returns-clause-ok
unfolding stop_in
returns-clause-ok c = rw (c.in_ok-members.ensures.ok, c.in_ok-color.ensures.ok, c.in_ok-position.ensures.ok, c.clamped.ensures) refl
