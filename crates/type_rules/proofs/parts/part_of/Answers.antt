use Rattle.std.specs.Fmt.{decimal}
use Rattle.json_span.specs.PlainView.{plain_view}
use Rattle.type_rules.proofs.Breaks.{under_ok, under_broken}
use Rattle.type_rules.proofs.parts.part_of.Goals as goal

pub returns-clause-ok : goal.returns-clause-ok
returns-clause-ok g c = under_ok (g.P.Part.part_in c.args.legacy (plain_view c.args.plain.now)) (decimal c.args.i) c.check.result c.at_item.result c.check.ensures.ok c.at_item.ensures.ok c.at_item.ensures.broken

pub returns-clause-broken : goal.returns-clause-broken
returns-clause-broken g c = under_broken (g.P.Part.part_in c.args.legacy (plain_view c.args.plain.now)) (decimal c.args.i) c.check.result c.at_item.result c.check.ensures.broken c.at_item.ensures.ok c.at_item.ensures.broken
