use Rattle.group_inherit.proofs.Expansions.{one_expansion, expanded_by_name}
use Rattle.group_inherit.proofs.laws.expanded_by_name.Goals as goal

pub returns-clause-one : goal.returns-clause-one
returns-clause-one c = λ tree path e f x y. one_expansion tree path x y

pub returns-clause-named : goal.returns-clause-named
returns-clause-named c = expanded_by_name
