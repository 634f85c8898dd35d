use Rattle.std.proofs.Common.{◌∙◌, get_or}
use Rattle.ref_graph.specs.Edges.{is_in}
use Rattle.ref_graph.proofs.Sets.{asked, removed_more}
use Rattle.ref_graph.proofs.sources.take_back_source.Goals as goal

pub loop-target-preserved : goal.loop-target-preserved
loop-target-preserved c = record {
  long = c.remove_unless_kept.ensures.long ∙ c.loop-target.invariant.long;
  removed = removed_more c.args.sources.now.items c.loop-target.sources.items c.remove_unless_kept.new.sources.items c.args.node c.args.targets.now c.loop-target.target-index (is_in c.args.kept.now) c.contains.result
      c.loop-target-test.true (c.contains.ensures.value ∙ asked c.args.kept.now (get_or c.args.targets.now c.loop-target.target-index 0)) c.loop-target.invariant.removed c.remove_unless_kept.ensures.removed;
}
