use Rattle.std.proofs.Common.{rules}
use Rattle.dec_fix.proofs.SameNumber.{times-is}
use Rattle.dec_fix.proofs.decimal.Dec.times_1000.Goals as goal

pub returns-clause-is : goal.returns-clause-is
returns-clause-is c = search rules

pub returns-clause-exact : goal.returns-clause-exact
returns-clause-exact c = times-is c.args.self.now 1000 c.shortened.result (returns-clause-is c)
