use Rattle.source_trees.proofs.ShapesListed.{shape_breaks_break, broken_shapes_are_listed}
use Rattle.source_trees.proofs.laws.shape_rule_laws.Goals as goal

pub returns-clause-breaks : goal.returns-clause-breaks
returns-clause-breaks c = shape_breaks_break

pub returns-clause-all : goal.returns-clause-all
returns-clause-all c = broken_shapes_are_listed
