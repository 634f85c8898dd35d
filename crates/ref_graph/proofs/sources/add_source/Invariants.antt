use Rattle.std.proofs.Common.{◌≡◌, length, take}
use Rattle.ref_graph.specs.Edges.{IsAdded}
use Rattle.ref_graph.proofs.sources.add_source.Given as goal

abbrev pub invariant-loop-target : goal.invariant-loop-target
invariant-loop-target l = record {
  long : length l.sources.items ≡ length l.initial.sources.items;
  added : IsAdded l.initial.sources.items l.sources.items l.node (take l.target-index l.targets);
}
