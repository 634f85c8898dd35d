use Rattle.ref_graph.proofs.Sets.{taken_away}
use Rattle.ref_graph.proofs.sources.remove_unless_kept.Goals as goal

pub returns-clause-removed : goal.returns-clause-removed
returns-clause-removed c =
    taken_away c.args.sources.now.items c.args.node c.args.target c.args.is_kept c.index_mut.result.now c.remove.new.self c.if-is_kept.false c.requires c.index_mut.ensures.value c.remove.ensures.updates.0
