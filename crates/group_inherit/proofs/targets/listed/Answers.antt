use Rattle.group_inherit.proofs.Placing.{one_list_more, all_listed}
use Rattle.group_inherit.proofs.targets.listed.Goals as goal

pub loop-row-preserved : goal.loop-row-preserved
loop-row-preserved c =
    one_list_more c.args.rows.now c.loop-row.row-index c.row-item.result c.loop-row.lists.items c.push.new.self.items c.in_ok-numbers.field-0
    c.loop-row-test.true c.row-item.is c.in_ok-numbers.ensures c.in_ok-push.ensures.items c.loop-row.invariant

pub returns : goal.returns
returns c = all_listed c.args.rows.now c.loop-row.row-index c.loop-row.lists.items c.loop-row-test.false c.loop-row.invariant
