-- The edges lead to the places so far, but for those from whose tokens no change is reached.
use Rattle.std.proofs.Common.{take}
use Rattle.tree_changes.specs.inner.Links.{AreUnsettled}
use Rattle.tree_changes.proofs.links.unsettled.Given as goal

abbrev pub invariant-loop-place : goal.invariant-loop-place
invariant-loop-place l = AreUnsettled l.settled (take l.place-index l.targets) l.edges.items
