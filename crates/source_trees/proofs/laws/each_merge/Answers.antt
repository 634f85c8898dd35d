use Rattle.source_trees.proofs.EachMerge as merge
use Rattle.source_trees.proofs.laws.each_merge.Goals as goal

pub returns-clause-found : goal.returns-clause-found
returns-clause-found c = merge.each_merge

pub returns-clause-ordered : goal.returns-clause-ordered
returns-clause-ordered c = merge.merged_is_ordered c.ordered_trees.ensures.shapes c.ordered_trees.ensures.merged
