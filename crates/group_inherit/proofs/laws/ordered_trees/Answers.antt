use Rattle.group_inherit.proofs.OrderedTrees.{shape_ordered, over_ordered, merged_ordered, expanded_ordered}
use Rattle.group_inherit.proofs.laws.ordered_trees.Goals as goal

pub returns-clause-shapes : goal.returns-clause-shapes
returns-clause-shapes c = shape_ordered

pub returns-clause-merged : goal.returns-clause-merged
returns-clause-merged c = (over_ordered, merged_ordered)

pub returns-clause-expanded : goal.returns-clause-expanded
returns-clause-expanded c = λ tree path e x. expanded_ordered tree path x
