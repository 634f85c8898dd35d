use Rattle.std.proofs.Common.{length, ◌≢◌, ◌≤◌, drop}
use Rattle.std.specs.Prelude.{All}
use Rattle.lane_scan.proofs.newlines.last_newline.Given as goal

abbrev pub invariant-loop-end : goal.invariant-loop-end
invariant-loop-end l = record {
  within : l.end ≤ length l.bytes;
  none_after : All (λ x. x ≢ 10) (drop l.end l.bytes);
}

abbrev pub decreases-loop-end : goal.decreases-loop-end
decreases-loop-end l = l.end
