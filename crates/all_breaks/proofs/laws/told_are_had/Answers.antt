use Rattle.all_breaks.proofs.ToldPairs.{told_are_had, told_differ}
use Rattle.all_breaks.proofs.laws.told_are_had.Goals as goal

pub returns-clause-had : goal.returns-clause-had
returns-clause-had c = told_are_had c.one_listing.ensures.permutation

pub returns-clause-differ : goal.returns-clause-differ
returns-clause-differ c = told_differ
