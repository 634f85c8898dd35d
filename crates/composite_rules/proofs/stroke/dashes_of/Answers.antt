use Rattle.std.proofs.Common.{refl, codes}
use Rattle.json_span.specs.PlainView.{plain_view, plain_fields_view}
use Rattle.type_rules.specs.declared.fault.ValueRule.TheVariants.{StrokeCap}
use Rattle.type_rules.specs.Forms.{members_in, member, list_in}
use Rattle.type_rules.specs.Value.{size_in}
use Rattle.type_rules.specs.Words.{word_in}
use Rattle.composite_rules.specs.Words.{caps}
use Rattle.type_rules.proofs.Breaks.{stays}
use Rattle.composite_rules.specs.Value.{dashes_in}
use Rattle.composite_rules.proofs.stroke.dashes_of.Goals as goal

pub returns-in_err-members-clause-broken : goal.returns-in_err-members-clause-broken
unfolding dashes_in
returns-in_err-members-clause-broken c = stays (members_in (plain_view c.args.plain.now)) _ _ _ c.from_residual.ensures.1 c.in_err-members.ensures.broken

pub returns-in_err-lengths-clause-broken : goal.returns-in_err-lengths-clause-broken
unfolding dashes_in
returns-in_err-lengths-clause-broken c = rw c.in_ok-members.ensures.ok (stays (member (list_in (size_in c.args.legacy)) (codes "dashArray") (plain_fields_view c.in_ok-members.members.now)) _ _ _ c.from_residual-in_err-lengths.ensures.1 c.in_err-lengths.ensures.broken)

pub returns-in_err-cap-clause-broken : goal.returns-in_err-cap-clause-broken
unfolding dashes_in
returns-in_err-cap-clause-broken c = rw (c.in_ok-members.ensures.ok, c.in_ok-lengths.ensures.ok) (stays (member (word_in StrokeCap caps) (codes "lineCap") (plain_fields_view c.in_ok-members.members.now)) _ _ _ c.from_residual-in_err-cap.ensures.1 c.in_err-cap.ensures.broken)

pub returns-clause-ok : goal.returns-clause-ok
unfolding dashes_in
returns-clause-ok c = rw (c.in_ok-members.ensures.ok, c.in_ok-lengths.ensures.ok, c.in_ok-cap.ensures.ok) refl
