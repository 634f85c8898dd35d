use Rattle.std.proofs.Common.{arith}
use Rattle.tree_changes.proofs.Calm.{none_settled}
use Rattle.tree_changes.proofs.settling.settled_tokens.Goals as goal

pub loop-turn-init : goal.loop-turn-init
loop-turn-init c = (
  omega (arith, c.in_ok-settled.ensures.len, c.in_ok-settled.settled.ok.0),
  none_settled c.args.side.now.old.now c.args.side.now.new.now c.in_ok-settled.settled.items _ (c.in_ok-settled.ensures.items_if_clones_equal (λ y e. e)),
)
