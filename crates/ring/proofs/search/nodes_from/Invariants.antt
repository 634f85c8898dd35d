use Rattle.std.proofs.Common.{◌≡◌, ◌++◌, ◌-◌, drop, length}
use Rattle.ring.specs.Lists.{In}
use Rattle.ring.specs.inner.Stack.{nodes}
use Rattle.ring.proofs.search.nodes_from.Given as goal

-- the node is among those from here on
abbrev pub invariant-loop-at : goal.invariant-loop-at
invariant-loop-at l = In l.node (nodes (drop l.at l.frames))

abbrev pub decreases-loop-at : goal.decreases-loop-at
decreases-loop-at l = length l.frames - l.at

abbrev pub invariant-loop-i : goal.invariant-loop-i
invariant-loop-i l = l.ring.items ++ nodes (drop l.i l.frames) ≡ nodes (drop l.at l.frames)
