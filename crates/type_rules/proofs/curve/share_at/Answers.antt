use Rattle.std.specs.Fmt.{decimal}
use Rattle.type_rules.specs.declared.fault.ValueRule.TheVariants.{BezierRange}
use Rattle.type_rules.specs.Ranges.{ranged, share}
use Rattle.type_rules.proofs.Breaks.{under_ok, under_broken}
use Rattle.type_rules.proofs.curve.share_at.Goals as goal

pub returns-clause-ok : goal.returns-clause-ok
returns-clause-ok c = under_ok (ranged BezierRange share c.args.number) (decimal c.args.i) c.ranged.result c.at_item.result c.ranged.ensures.ok c.at_item.ensures.ok c.at_item.ensures.broken

pub returns-clause-broken : goal.returns-clause-broken
returns-clause-broken c = under_broken (ranged BezierRange share c.args.number) (decimal c.args.i) c.ranged.result c.at_item.result c.ranged.ensures.broken c.at_item.ensures.ok c.at_item.ensures.broken
