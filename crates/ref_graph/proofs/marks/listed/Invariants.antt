use Rattle.std.proofs.Common.{◌≡◌, ℕ, ◌<◌, nat_lt, ◌&&◌, All}
use Rattle.std.specs.List.Sorted.{IsStrictlyIncreasing}
use Rattle.ref_graph.specs.Edges.{is_in}
use Rattle.ref_graph.specs.inner.Marking.{is_marked}
use Rattle.ref_graph.proofs.marks.listed.Given as goal

abbrev pub invariant-loop-node : goal.invariant-loop-node
invariant-loop-node l = record {
  marked : (v : ℕ) → is_in l.nodes v ≡ (nat_lt v l.node && is_marked l.marks v);
  below : All (λ v. v < l.node) l.nodes;
  ascending : IsStrictlyIncreasing l.nodes;
}
