use Rattle.std.proofs.Common.{length, ◌-◌, ◌≡◌, ◌≤◌, drop}
use Rattle.std.specs.Str.{bytes_eq}
use Rattle.lane_scan.proofs.same.are_same.Given as goal

abbrev pub invariant-loop-at : goal.invariant-loop-at
invariant-loop-at l = record {
  long : length l.left ≡ length l.right;
  within : l.at ≤ length l.left;
  same : bytes_eq (drop l.at l.left) (drop l.at l.right) ≡ bytes_eq l.left l.right;
}

abbrev pub decreases-loop-at : goal.decreases-loop-at
decreases-loop-at l = length l.left - l.at
