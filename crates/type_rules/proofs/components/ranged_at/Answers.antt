use Rattle.std.specs.Fmt.{decimal}
use Rattle.type_rules.specs.Value.{ranged_component}
use Rattle.type_rules.proofs.Breaks.{under_ok, under_broken}
use Rattle.type_rules.proofs.components.ranged_at.Goals as goal

pub returns-clause-ok : goal.returns-clause-ok
returns-clause-ok c = under_ok (ranged_component c.args.range c.args.component) (decimal c.args.i) c.ranged_component.result c.at_item.result c.ranged_component.ensures.ok c.at_item.ensures.ok c.at_item.ensures.broken

pub returns-clause-broken : goal.returns-clause-broken
returns-clause-broken c = under_broken (ranged_component c.args.range c.args.component) (decimal c.args.i) c.ranged_component.result c.at_item.result c.ranged_component.ensures.broken c.at_item.ensures.ok c.at_item.ensures.broken
