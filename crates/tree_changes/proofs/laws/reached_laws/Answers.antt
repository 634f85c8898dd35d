use Rattle.tree_changes.proofs.Walks.{none_reached, reached_by_one}
use Rattle.tree_changes.proofs.laws.reached_laws.Goals as goal

pub returns : goal.returns
returns c = record { one = reached_by_one; none = none_reached c.differ_decides.ensures }
