use Rattle.all_breaks.proofs.Planned.{given_ends, given_start}
use Rattle.all_breaks.proofs.perm.ToldMade.start.Goals as goal

pub returns-clause-begins : goal.returns-clause-begins
returns-clause-begins c = λ settings files perms are apart. given_start settings files perms c.new.result c.new.ensures

pub returns-clause-ends : goal.returns-clause-ends
returns-clause-ends c = given_ends
