use Rattle.std.proofs.Common.{[]}
use Rattle.group_inherit.proofs.LostTargets.{lost_are_all}
use Rattle.group_inherit.proofs.PathOrder.{groups_sorted, lost_sorted}
use Rattle.group_inherit.proofs.laws.lost_in_order.Goals as goal

pub returns-clause-ascend : goal.returns-clause-ascend
returns-clause-ascend c = λ tree o. (groups_sorted [] tree o, lost_sorted tree o)

pub returns-clause-all : goal.returns-clause-all
returns-clause-all c = lost_are_all
