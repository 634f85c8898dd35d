-- The places of the tokens so far are forgotten.
use Rattle.std.proofs.Common.{take}
use Rattle.tree_changes.specs.inner.Forgetting.{AreForgotten}
use Rattle.tree_changes.proofs.keeping.forget.Given as goal

abbrev pub invariant-loop-node : goal.invariant-loop-node
invariant-loop-node l = AreForgotten (take l.node-index l.nodes) l.initial.places.items l.places.items
