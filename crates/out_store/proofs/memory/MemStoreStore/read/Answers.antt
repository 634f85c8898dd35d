use Rattle.std.proofs.Common.{refl}
use Rattle.out_store.proofs.Memories.{counted_fault}
use Rattle.out_store.proofs.memory.MemStoreStore.read.Goals as goal

pub returns-then-fails_now-clause-cause : goal.returns-then-fails_now-clause-cause
returns-then-fails_now-clause-cause c =
    counted_fault c.args.self.now c.fails_now.new.self c.fails_now.result c.fails_now.ensures c.if-fails_now.true c.fails_now.new.self.faults refl
