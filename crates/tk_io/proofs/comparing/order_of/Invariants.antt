use Rattle.std.proofs.Common.{◌≡◌, length}
use Rattle.tk_io.specs.Order.{text_cmp}
use Rattle.tk_io.proofs.comparing.order_of.Given as goal

abbrev pub invariant-loop-byte : goal.invariant-loop-byte
invariant-loop-byte l = record {
  same : text_cmp l.ours l.others ≡ text_cmp l.left l.right;
}

abbrev pub decreases-loop-byte : goal.decreases-loop-byte
decreases-loop-byte l = length l.ours
