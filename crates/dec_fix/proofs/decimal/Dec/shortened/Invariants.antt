use Rattle.std.proofs.Common.{◌≡◌, ◌^◌, ◌<◌, ◌≤◌}
use Rattle.dec_fix.specs.Decimal.{shortest}
use Rattle.dec_fix.proofs.decimal.Dec.shortened.Given as goal

abbrev pub invariant-loop-s : goal.invariant-loop-s
invariant-loop-s l = record {
  places : l.s ≤ 33;
  small : l.left < 10 ^ 33;
  same : shortest l.left l.s ≡ shortest l.size l.places;
}

abbrev pub decreases-loop-s : goal.decreases-loop-s
decreases-loop-s l = l.s
