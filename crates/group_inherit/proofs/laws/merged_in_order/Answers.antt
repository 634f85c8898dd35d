use Rattle.group_inherit.proofs.MergedSources.{sources_in_order, one_source, one_file}
use Rattle.group_inherit.proofs.laws.merged_in_order.Goals as goal

pub returns-clause-order : goal.returns-clause-order
returns-clause-order c = sources_in_order

pub returns-clause-one : goal.returns-clause-one
returns-clause-one c = one_source

pub returns-clause-file : goal.returns-clause-file
returns-clause-file c = one_file
