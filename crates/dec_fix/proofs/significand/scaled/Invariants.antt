use Rattle.std.proofs.Common.{◌≡◌, ◌*◌, ◌^◌, ◌<◌, min}
use Rattle.dec_fix.proofs.significand.scaled.Given as goal

abbrev pub invariant-loop-left : goal.invariant-loop-left
invariant-loop-left l = record {
  small : l.n < 10 ^ 31;
  same : min (l.n * 10 ^ l.left) (10 ^ 30) ≡ min (l.m * 10 ^ l.k) (10 ^ 30);
}

abbrev pub decreases-loop-left : goal.decreases-loop-left
decreases-loop-left l = l.left
