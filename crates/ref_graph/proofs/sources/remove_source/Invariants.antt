use Rattle.std.proofs.Common.{◌≡◌, length, take}
use Rattle.std.specs.Ordering.{nat_cmp}
use Rattle.std.specs.BTreeSet.{contains}
use Rattle.ref_graph.specs.Edges.{IsRemoved}
use Rattle.ref_graph.proofs.sources.remove_source.Given as goal

abbrev pub invariant-loop-target : goal.invariant-loop-target
invariant-loop-target l = record {
  long : length l.sources.items ≡ length l.initial.sources.items;
  removed : IsRemoved l.initial.sources.items l.sources.items l.node (take l.target-index l.targets) (contains nat_cmp l.kept);
}
