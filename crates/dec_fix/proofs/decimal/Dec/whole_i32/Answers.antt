use Rattle.std.proofs.Common.{arith}
use Rattle.dec_fix.proofs.SameNumber.{no_whole}
use Rattle.dec_fix.proofs.decimal.Dec.whole_i32.Goals as goal

pub returns-then-s-ne0-clause-none : goal.returns-then-s-ne0-clause-none
returns-then-s-ne0-clause-none c = λ n fits e. no_whole c.args.self.now n c.parts-c.ensures.is.short (λ z. absurd (omega arith)) e
