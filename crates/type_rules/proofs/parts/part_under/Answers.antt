use Rattle.json_span.specs.PlainView.{plain_view, plain_fields_view}
use Rattle.type_rules.proofs.Finding.{missing, member_ok, member_broken}
use Rattle.type_rules.proofs.parts.part_under.Goals as goal

pub returns-in_err-plain-clause-broken : goal.returns-in_err-plain-clause-broken
returns-in_err-plain-clause-broken g c = missing (g.P.Part.part_in c.args.legacy) c.args.name.now (plain_fields_view c.args.members.now) _ c.from_residual.result c.from_residual.ensures.1 c.in_err-plain.ensures.broken

pub returns-clause-ok : goal.returns-clause-ok
returns-clause-ok g c = member_ok (g.P.Part.part_in c.args.legacy) c.args.name.now (plain_fields_view c.args.members.now) (plain_view c.in_ok-plain.plain.now) c.check.result c.under.result c.in_ok-plain.ensures.ok c.check.ensures.ok c.under.ensures.ok c.under.ensures.broken

pub returns-clause-broken : goal.returns-clause-broken
returns-clause-broken g c = member_broken (g.P.Part.part_in c.args.legacy) c.args.name.now (plain_fields_view c.args.members.now) (plain_view c.in_ok-plain.plain.now) c.check.result c.under.result c.in_ok-plain.ensures.ok c.check.ensures.broken c.under.ensures.ok c.under.ensures.broken
