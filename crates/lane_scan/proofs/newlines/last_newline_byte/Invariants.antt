use Rattle.std.proofs.Common.{length, ◌≢◌, ◌≤◌, drop}
use Rattle.std.specs.Prelude.{All}
use Rattle.lane_scan.proofs.newlines.last_newline_byte.Given as goal

abbrev pub invariant-loop-at : goal.invariant-loop-at
invariant-loop-at l = record {
  within : l.at ≤ length l.bytes;
  none_after : All (λ x. x ≢ 10) (drop l.at l.bytes);
}

abbrev pub decreases-loop-at : goal.decreases-loop-at
decreases-loop-at l = l.at
