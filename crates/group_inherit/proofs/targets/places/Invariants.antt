use Rattle.group_inherit.specs.inner.View.{nodes_view}
use Rattle.group_inherit.specs.inner.Numbering.{ArePlaces}
use Rattle.group_inherit.proofs.targets.places.Given as goal

-- the numbers of the groups so far
abbrev pub invariant-loop-i : goal.invariant-loop-i
invariant-loop-i l = ArePlaces (nodes_view l.nodes) l.i l.places
