use Rattle.std.proofs.Common.{◌+◌}
use Rattle.ring.proofs.Turns.{Turn}
use Rattle.ring.proofs.Work.{new_work, left_work}
use Rattle.ring.proofs.search.ring_or_order.Given as goal

abbrev pub invariant-loop-top : goal.invariant-loop-top
invariant-loop-top l = Turn l.graph l.root l.marks.items l.stack.items l.order.items

abbrev pub decreases-loop-top : goal.decreases-loop-top
decreases-loop-top l = new_work l.graph l.marks.items + left_work l.graph l.stack.items
