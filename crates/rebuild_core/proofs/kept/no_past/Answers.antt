use Rattle.rebuild_core.proofs.MadePasts.{no_past_is}
use Rattle.rebuild_core.proofs.kept.no_past.Goals as goal

pub returns : goal.returns
returns c = no_past_is _ c.new-used.ensures c.new-trees.ensures c.new-shapes.ensures c.new-plan.ensures c.new-outcomes.ensures.items
