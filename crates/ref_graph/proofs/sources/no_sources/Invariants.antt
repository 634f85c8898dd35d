use Rattle.std.proofs.Common.{◌≡◌, ℕ, false, length}
use Rattle.ref_graph.specs.Edges.{has_source}
use Rattle.ref_graph.proofs.sources.no_sources.Given as goal

abbrev pub invariant-loop-node : goal.invariant-loop-node
invariant-loop-node l = record {
  long : length l.sources.items ≡ l._node;
  empty : (w v : ℕ) → has_source l.sources.items w v ≡ false;
}
