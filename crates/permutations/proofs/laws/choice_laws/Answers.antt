use Rattle.permutations.proofs.ChoicesInOrder.{as_many, at_place, each_place}
use Rattle.permutations.proofs.laws.choice_laws.Goals as goal

pub returns-clause-all : goal.returns-clause-all
returns-clause-all c = at_place

pub returns-clause-picks : goal.returns-clause-picks
returns-clause-picks c = each_place

pub returns-clause-count : goal.returns-clause-count
returns-clause-count c = as_many
