use Rattle.std.proofs.Common.{◌∙◌, ap, inr}
use Rattle.out_store.proofs.Memories.{counted_fault, left_elsewhere}
use Rattle.out_store.proofs.memory.MemStoreStore.write.Goals as goal

pub returns-then-fails_now-clause-torn : goal.returns-then-fails_now-clause-torn
returns-then-fails_now-clause-torn c =
    left_elsewhere c.args.self.now.held c.self.inside.held c.leave.new.held c.args.path.now c.self.inside.torn.now (ap (λ s. s.held) c.self.view_is ∙ c.fails_now.ensures.held) c.leave.ensures

pub returns-then-fails_now-clause-cause : goal.returns-then-fails_now-clause-cause
returns-then-fails_now-clause-cause c =
    counted_fault c.args.self.now c.fails_now.new.self c.fails_now.result c.fails_now.ensures c.if-fails_now.true c.self.inside.faults (ap (λ s. s.faults) c.self.view_is)

pub returns-in-Err-clause-torn : goal.returns-in-Err-clause-torn
returns-in-Err-clause-torn c =
    left_elsewhere c.args.self.now.held c.put_copy.new.held c.del.new.self c.args.path.now c.args.bytes.now (c.in-Err.ensures.err ∙ (ap (λ s. s.held) c.self.view_is ∙ c.fails_now.ensures.held)) (inr c.del.ensures.gone)
