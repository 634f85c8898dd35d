use Rattle.source_trees.proofs.NeedsInOrder.{needs_are_in_order, counts_are_sums, rings_tell_first}
use Rattle.source_trees.proofs.laws.extension_rule_laws.Goals as goal

pub returns-clause-needs : goal.returns-clause-needs
returns-clause-needs c = needs_are_in_order c.over_by_name.ensures.first

pub returns-clause-counts : goal.returns-clause-counts
returns-clause-counts c = counts_are_sums

pub returns-clause-rings : goal.returns-clause-rings
returns-clause-rings c = rings_tell_first
