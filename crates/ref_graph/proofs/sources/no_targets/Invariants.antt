use Rattle.std.proofs.Common.{◌≡◌, [], replicate}
use Rattle.ref_graph.specs.Edges.{rows_of}
use Rattle.ref_graph.proofs.sources.no_targets.Given as goal

abbrev pub invariant-loop-node : goal.invariant-loop-node
invariant-loop-node l = rows_of l.rows.items ≡ replicate l._node []
