use Rattle.source_trees.proofs.Known.{shapes_known}
use Rattle.source_trees.proofs.laws.shapes_known.Goals as goal

pub returns : goal.returns
returns c = shapes_known c.in_use_laws.ensures
