use Rattle.std.proofs.Common.{◌+◌, length, count_by, not}
use Rattle.ref_graph.specs.Edges.{rows_of}
use Rattle.ref_graph.proofs.Reaches.{Reaching}
use Rattle.ref_graph.proofs.graph.Graph.reach.Given as goal

abbrev pub invariant-loop-node : goal.invariant-loop-node
invariant-loop-node l = Reaching (rows_of l.self-inside.targets.items) l.changed l.marks.items l.waiting.items

abbrev pub decreases-loop-node : goal.decreases-loop-node
decreases-loop-node l = count_by not l.marks.items + length l.waiting.items
