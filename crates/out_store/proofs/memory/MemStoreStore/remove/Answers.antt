use Rattle.std.proofs.Common.{ap, refl}
use Rattle.out_store.proofs.Memories.{counted_fault}
use Rattle.out_store.proofs.memory.MemStoreStore.remove.Goals as goal

pub returns-then-not-self-clause-cause : goal.returns-then-not-self-clause-cause
returns-then-not-self-clause-cause c =
    counted_fault c.args.self.now c.fails_now-fails.new.self c.fails_now-fails.result c.fails_now-fails.ensures c.if-fails.true c.fails_now-fails.new.self.faults refl

pub returns-then-fails-2-clause-cause : goal.returns-then-fails-2-clause-cause
returns-then-fails-2-clause-cause c =
    counted_fault c.args.self.now c.fails_now-fails.new.self c.fails_now-fails.result c.fails_now-fails.ensures c.if-fails-2.true c.self.inside.faults (ap (λ s. s.faults) c.self.view_is)
