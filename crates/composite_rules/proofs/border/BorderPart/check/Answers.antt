use Rattle.std.proofs.Common.{refl, codes}
use Rattle.json_span.specs.PlainView.{plain_view, plain_fields_view}
use Rattle.type_rules.specs.Forms.{members_in, member}
use Rattle.type_rules.specs.Value.{color_in, size_in}
use Rattle.type_rules.proofs.Breaks.{stays}
use Rattle.composite_rules.specs.Value.{border_in, stroke_in}
use Rattle.composite_rules.proofs.border.BorderPart.check.Goals as goal

pub returns-in_err-members-clause-broken : goal.returns-in_err-members-clause-broken
unfolding border_in
returns-in_err-members-clause-broken c = stays (members_in (plain_view c.args.plain.now)) _ _ _ c.from_residual.ensures.1 c.in_err-members.ensures.broken

pub returns-in_err-color-clause-broken : goal.returns-in_err-color-clause-broken
unfolding border_in
returns-in_err-color-clause-broken c = rw c.in_ok-members.ensures.ok (stays (member (color_in c.args.legacy) (codes "color") (plain_fields_view c.in_ok-members.members.now)) _ _ _ c.from_residual-in_err-color.ensures.1 c.in_err-color.ensures.broken)

pub returns-in_err-width-clause-broken : goal.returns-in_err-width-clause-broken
unfolding border_in
returns-in_err-width-clause-broken c = rw (c.in_ok-members.ensures.ok, c.in_ok-color.ensures.ok) (stays (member (size_in c.args.legacy) (codes "width") (plain_fields_view c.in_ok-members.members.now)) _ _ _ c.from_residual-in_err-width.ensures.1 c.in_err-width.ensures.broken)

pub returns-in_err-style-clause-broken : goal.returns-in_err-style-clause-broken
unfolding border_in
returns-in_err-style-clause-broken c = rw (c.in_ok-members.ensures.ok, c.in_ok-color.ensures.ok, c.in_ok-width.ensures.ok) (stays (member (stroke_in c.args.legacy) (codes "style") (plain_fields_view c.in_ok-members.members.now)) _ _ _ c.from_residual-in_err-style.ensures.1 c.in_err-style.ensures.broken)

pub returns-clause-ok : goal.returns-clause-ok
unfolding border_in
returns-clause-ok c = rw (c.in_ok-members.ensures.ok, c.in_ok-color.ensures.ok, c.in_ok-width.ensures.ok, c.in_ok-style.ensures.ok) refl
