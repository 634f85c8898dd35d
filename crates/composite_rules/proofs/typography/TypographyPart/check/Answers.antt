use Rattle.std.proofs.Common.{refl, codes}
use Rattle.json_span.specs.PlainView.{plain_view, plain_fields_view}
use Rattle.type_rules.specs.Forms.{members_in, number_in, member}
use Rattle.type_rules.specs.Value.{families_in, size_in, weight_in}
use Rattle.type_rules.proofs.Breaks.{stays}
use Rattle.composite_rules.specs.Value.{typography_in}
use Rattle.composite_rules.proofs.typography.TypographyPart.check.Goals as goal

pub returns-in_err-members-clause-broken : goal.returns-in_err-members-clause-broken
unfolding typography_in
returns-in_err-members-clause-broken c = stays (members_in (plain_view c.args.plain.now)) _ _ _ c.from_residual.ensures.1 c.in_err-members.ensures.broken

pub returns-in_err-family-clause-broken : goal.returns-in_err-family-clause-broken
unfolding typography_in
returns-in_err-family-clause-broken c = rw c.in_ok-members.ensures.ok (stays (member families_in (codes "fontFamily") (plain_fields_view c.in_ok-members.members.now)) _ _ _ c.from_residual-in_err-family.ensures.1 c.in_err-family.ensures.broken)

pub returns-in_err-size-clause-broken : goal.returns-in_err-size-clause-broken
unfolding typography_in
returns-in_err-size-clause-broken c = rw (c.in_ok-members.ensures.ok, c.in_ok-family.ensures.ok) (stays (member (size_in c.args.legacy) (codes "fontSize") (plain_fields_view c.in_ok-members.members.now)) _ _ _ c.from_residual-in_err-size.ensures.1 c.in_err-size.ensures.broken)

pub returns-in_err-weight-clause-broken : goal.returns-in_err-weight-clause-broken
unfolding typography_in
returns-in_err-weight-clause-broken c = rw (c.in_ok-members.ensures.ok, c.in_ok-family.ensures.ok, c.in_ok-size.ensures.ok) (stays (member weight_in (codes "fontWeight") (plain_fields_view c.in_ok-members.members.now)) _ _ _ c.from_residual-in_err-weight.ensures.1 c.in_err-weight.ensures.broken)

pub returns-in_err-spacing-clause-broken : goal.returns-in_err-spacing-clause-broken
unfolding typography_in
returns-in_err-spacing-clause-broken c = rw (c.in_ok-members.ensures.ok, c.in_ok-family.ensures.ok, c.in_ok-size.ensures.ok, c.in_ok-weight.ensures.ok) (stays (member (size_in c.args.legacy) (codes "letterSpacing") (plain_fields_view c.in_ok-members.members.now)) _ _ _ c.from_residual-in_err-spacing.ensures.1 c.in_err-spacing.ensures.broken)

pub returns-in_err-line_height-clause-broken : goal.returns-in_err-line_height-clause-broken
unfolding typography_in
returns-in_err-line_height-clause-broken c = rw (c.in_ok-members.ensures.ok, c.in_ok-family.ensures.ok, c.in_ok-size.ensures.ok, c.in_ok-weight.ensures.ok, c.in_ok-spacing.ensures.ok) (stays (member number_in (codes "lineHeight") (plain_fields_view c.in_ok-members.members.now)) _ _ _ c.from_residual-in_err-line_height.ensures.1 c.in_err-line_height.ensures.broken)

pub returns-clause-ok : goal.returns-clause-ok
unfolding typography_in
returns-clause-ok c = rw (c.in_ok-members.ensures.ok, c.in_ok-family.ensures.ok, c.in_ok-size.ensures.ok, c.in_ok-weight.ensures.ok, c.in_ok-spacing.ensures.ok, c.in_ok-line_height.ensures.ok) refl
