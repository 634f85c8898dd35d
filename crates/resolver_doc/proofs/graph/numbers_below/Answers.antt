use Rattle.std.specs.List.{range_with_len}
use Rattle.resolver_doc.proofs.SetRings.{range_push}
use Rattle.resolver_doc.proofs.graph.numbers_below.Goals as goal

pub loop-number-preserved : goal.loop-number-preserved
loop-number-preserved c =
    range_push c.loop-number.row.items c.push.new.self.items c.loop-number.number c.args.n (range_with_len 0 c.args.n) c.loop-number-test.true c.in_ok-push.ensures.items c.loop-number.invariant
