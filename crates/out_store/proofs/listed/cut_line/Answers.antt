use Rattle.std.proofs.Common.{arith}
use Rattle.out_store.proofs.Lines.{cut_found}
use Rattle.out_store.proofs.listed.cut_line.Goals as goal

pub returns : goal.returns
returns c = cut_found 10 c.args.text.now c.split_once.result (c.split_once.ensures.byte (omega arith) (λ w o h. h))
