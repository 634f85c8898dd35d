use Rattle.std.proofs.Common.{◌∙◌}
use Rattle.std.specs.Ordering.{nat_cmp}
use Rattle.std.specs.BTreeSet.{contains}
use Rattle.ref_graph.proofs.Sets.{removed_more}
use Rattle.ref_graph.proofs.sources.remove_source.Goals as goal

pub loop-target-preserved : goal.loop-target-preserved
loop-target-preserved c = record {
  long = c.remove_unless_kept.ensures.long ∙ c.loop-target.invariant.long;
  removed = removed_more c.args.sources.now.items c.loop-target.sources.items c.remove_unless_kept.new.sources.items c.args.node c.args.targets.now c.loop-target.target-index (contains nat_cmp c.args.kept.now) c.contains.result
      c.loop-target-test.true c.contains.ensures c.loop-target.invariant.removed c.remove_unless_kept.ensures.removed;
}
