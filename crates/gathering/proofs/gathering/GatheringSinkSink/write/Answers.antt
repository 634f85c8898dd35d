use Rattle.std.proofs.Common.{arith}
use Rattle.gathering.proofs.Gathered.{grew_written}
use Rattle.gathering.proofs.gathering.GatheringSinkSink.write.Goals as goal

pub invariant_of-self : goal.invariant_of-self
invariant_of-self g c =
    let written = g.K.Sink.written in
    let (within, (grew, faults)) = c.self.invariant in (
      within,
      (
        grew_written g.B.Start.written (written c.self.inside.inner) (written c.write.new.self) c.write.result c.args.piece.now grew c.write.ensures.bytes,
        omega (arith, faults, c.write.ensures.cause.later),
      ),
    )
