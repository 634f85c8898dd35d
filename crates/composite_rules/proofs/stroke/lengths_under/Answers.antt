use Rattle.std.proofs.Common.{codes}
use Rattle.json_span.specs.PlainView.{plain_view, plain_fields_view}
use Rattle.type_rules.specs.Forms.{list_in}
use Rattle.type_rules.specs.Value.{size_in}
use Rattle.type_rules.proofs.Finding.{missing, member_ok, member_broken}
use Rattle.composite_rules.proofs.stroke.lengths_under.Goals as goal

pub returns-in_err-plain-clause-broken : goal.returns-in_err-plain-clause-broken
returns-in_err-plain-clause-broken c = missing (list_in (size_in c.args.legacy)) (codes "dashArray") (plain_fields_view c.args.members.now) _ c.from_residual.result c.from_residual.ensures.1 c.in_err-plain.ensures.broken

pub returns-clause-ok : goal.returns-clause-ok
returns-clause-ok c = member_ok (list_in (size_in c.args.legacy)) (codes "dashArray") (plain_fields_view c.args.members.now) (plain_view c.in_ok-plain.plain.now) c.list_of.result c.under.result c.in_ok-plain.ensures.ok c.list_of.ensures.ok c.under.ensures.ok c.under.ensures.broken

pub returns-clause-broken : goal.returns-clause-broken
returns-clause-broken c = member_broken (list_in (size_in c.args.legacy)) (codes "dashArray") (plain_fields_view c.args.members.now) (plain_view c.in_ok-plain.plain.now) c.list_of.result c.under.result c.in_ok-plain.ensures.ok c.list_of.ensures.broken c.under.ensures.ok c.under.ensures.broken
