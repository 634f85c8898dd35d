use Rattle.std.proofs.Common.{arith}
use Rattle.out_store.proofs.folder.DirStoreStore.read.Goals as goal

pub returns-in-Err-Failed-clause-cause : goal.returns-in-Err-Failed-clause-cause
returns-in-Err-Failed-clause-cause c = (c.count.ensures.later, omega (arith, c.count.ensures.next))
