use Rattle.std.proofs.Common.{arith}
use Rattle.ring.proofs.Frames.{one_more, is_from}
use Rattle.ring.proofs.search.nodes_from.Goals as goal

pub loop-i-preserved : goal.loop-i-preserved
loop-i-preserved c =
    one_more c.args.frames.now c.loop-i.i (record { node = 0; next = 0 }) c.loop-i.ring.items c.push.new.self.items _ (omega arith) c.loop-i.invariant c.in_ok-push.ensures.items

pub returns : goal.returns
returns c =
    is_from c.args.frames.now c.loop-at.at c.loop-i.i c.args.node (record { node = 0; next = 0 }) c.loop-i.ring.items c.loop-at.invariant c.loop-at-test.false c.loop-i.invariant c.loop-i-test.false
