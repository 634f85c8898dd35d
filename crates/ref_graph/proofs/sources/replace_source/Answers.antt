use Rattle.ref_graph.proofs.Sets.{restored}
use Rattle.ref_graph.proofs.sources.replace_source.Goals as goal

pub returns-in-Err-clause-err : goal.returns-in-Err-clause-err
returns-in-Err-clause-err c =
    restored c.args.sources.now.items c.add_source.new.sources.items c.take_back_source.new.sources.items c.args.node c.args.old.now c.args.new.now
    c.in-Err.ensures.err.0 c.requires.is_source c.in-Err.ensures.err.1 c.take_back_source.ensures.removed
