use Rattle.source_trees.proofs.OneMerge as merge
use Rattle.source_trees.proofs.laws.one_merge.Goals as goal

pub returns : goal.returns
returns c = record { found = merge.one_found; merged = merge.one_merge; flat = merge.one_flat_of c.one_answer.ensures.flat }
