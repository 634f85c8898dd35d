use Rattle.group_inherit.proofs.FlatTrees.{flat_by_path, flat_as_list}
use Rattle.group_inherit.proofs.laws.flat_by_path.Goals as goal

pub returns-clause-at : goal.returns-clause-at
returns-clause-at c = flat_by_path

pub returns-clause-list : goal.returns-clause-list
returns-clause-list c = flat_as_list
