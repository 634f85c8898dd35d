use Rattle.std.proofs.Common.{◌≡◌, ◌++◌, drop}
use Rattle.group_inherit.specs.inner.Outcomes.{own_counts}
use Rattle.group_inherit.specs.inner.View.{nodes_view}
use Rattle.group_inherit.proofs.sizes.own_counts.Given as goal

-- the numbers so far and those of the groups that are left
abbrev pub invariant-loop-node : goal.invariant-loop-node
invariant-loop-node l = l.own.items ++ own_counts (drop l.node-index (nodes_view l.nodes)) ≡ own_counts (nodes_view l.nodes)
