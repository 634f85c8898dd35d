use Rattle.std.proofs.Common.{◌≡◌, length, take}
use Rattle.ref_graph.specs.Edges.{is_in, IsRemoved}
use Rattle.ref_graph.proofs.sources.take_back_source.Given as goal

abbrev pub invariant-loop-target : goal.invariant-loop-target
invariant-loop-target l = record {
  long : length l.sources.items ≡ length l.initial.sources.items;
  removed : IsRemoved l.initial.sources.items l.sources.items l.node (take l.target-index l.targets) (is_in l.kept);
}
