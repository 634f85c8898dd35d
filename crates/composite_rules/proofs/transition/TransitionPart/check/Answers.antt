use Rattle.std.proofs.Common.{refl, codes}
use Rattle.json_span.specs.PlainView.{plain_view, plain_fields_view}
use Rattle.type_rules.specs.Forms.{members_in, member}
use Rattle.type_rules.specs.Value.{time_in, curve_in}
use Rattle.type_rules.proofs.Breaks.{stays}
use Rattle.composite_rules.specs.Value.{transition_in}
use Rattle.composite_rules.proofs.transition.TransitionPart.check.Goals as goal

pub returns-in_err-members-clause-broken : goal.returns-in_err-members-clause-broken
unfolding transition_in
returns-in_err-members-clause-broken c = stays (members_in (plain_view c.args.plain.now)) _ _ _ c.from_residual.ensures.1 c.in_err-members.ensures.broken

pub returns-in_err-duration-clause-broken : goal.returns-in_err-duration-clause-broken
unfolding transition_in
returns-in_err-duration-clause-broken c = rw c.in_ok-members.ensures.ok (stays (member (time_in c.args.legacy) (codes "duration") (plain_fields_view c.in_ok-members.members.now)) _ _ _ c.from_residual-in_err-duration.ensures.1 c.in_err-duration.ensures.broken)

pub returns-in_err-delay-clause-broken : goal.returns-in_err-delay-clause-broken
unfolding transition_in
returns-in_err-delay-clause-broken c = rw (c.in_ok-members.ensures.ok, c.in_ok-duration.ensures.ok) (stays (member (time_in c.args.legacy) (codes "delay") (plain_fields_view c.in_ok-members.members.now)) _ _ _ c.from_residual-in_err-delay.ensures.1 c.in_err-delay.ensures.broken)

pub returns-in_err-timing-clause-broken : goal.returns-in_err-timing-clause-broken
unfolding transition_in
returns-in_err-timing-clause-broken c = rw (c.in_ok-members.ensures.ok, c.in_ok-duration.ensures.ok, c.in_ok-delay.ensures.ok) (stays (member curve_in (codes "timingFunction") (plain_fields_view c.in_ok-members.members.now)) _ _ _ c.from_residual-in_err-timing.ensures.1 c.in_err-timing.ensures.broken)

pub returns-clause-ok : goal.returns-clause-ok
unfolding transition_in
returns-clause-ok c = rw (c.in_ok-members.ensures.ok, c.in_ok-duration.ensures.ok, c.in_ok-delay.ensures.ok, c.in_ok-timing.ensures.ok) refl
