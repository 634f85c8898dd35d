use Rattle.std.proofs.Common.{rules}
use Rattle.dec_fix.proofs.SameNumber.{over_1000-is}
use Rattle.dec_fix.proofs.decimal.Dec.over_1000.Goals as goal

pub returns-clause-is : goal.returns-clause-is
returns-clause-is c = search rules

pub returns-clause-exact : goal.returns-clause-exact
returns-clause-exact c = over_1000-is c.args.self.now c.shortened.result (returns-clause-is c)
