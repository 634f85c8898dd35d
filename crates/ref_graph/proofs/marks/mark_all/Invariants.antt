use Rattle.std.proofs.Common.{take}
use Rattle.ref_graph.specs.inner.Marking.{Marking}
use Rattle.ref_graph.proofs.marks.mark_all.Given as goal

abbrev pub invariant-loop-node : goal.invariant-loop-node
invariant-loop-node l = Marking (take l.node-index l.nodes) l.initial.marks.items l.initial.waiting.items l.marks.items l.waiting.items
