use Rattle.std.proofs.Common.{drop}
use Rattle.group_inherit.specs.inner.View.{nodes_view}
use Rattle.group_inherit.proofs.Placing.{Rowing}
use Rattle.group_inherit.proofs.targets.rows.Given as goal

-- the rows of the groups so far, none of which has a target that is not there
abbrev pub invariant-loop-node : goal.invariant-loop-node
invariant-loop-node l = Rowing l.places (nodes_view l.nodes) l.rows.items (drop l.node-index (nodes_view l.nodes))
