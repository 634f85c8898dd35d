use Rattle.ref_graph.proofs.Sets.{set_more}
use Rattle.ref_graph.proofs.sources.set_of.Goals as goal

pub loop-item-preserved : goal.loop-item-preserved
loop-item-preserved c = set_more c.args.items.now c.loop-item.item-index c.loop-item.set c.insert.new.self c.loop-item-test.true c.in_ok-insert.ensures.updates.0 c.loop-item.invariant
