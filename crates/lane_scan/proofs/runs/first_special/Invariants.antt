use Rattle.std.proofs.Common.{length, ◌-◌, ◌≡◌, ◌+◌, ◌≤◌, drop}
use Rattle.std.specs.List.{position_or_len}
use Rattle.lane_scan.specs.Bytes.{is_special}
use Rattle.lane_scan.proofs.runs.first_special.Given as goal

abbrev pub invariant-loop-at : goal.invariant-loop-at
invariant-loop-at l = record {
  within : l.at ≤ length l.bytes;
  same : l.from + position_or_len is_special (drop l.from l.bytes) ≡ l.at + position_or_len is_special (drop l.at l.bytes);
}

abbrev pub decreases-loop-at : goal.decreases-loop-at
decreases-loop-at l = length l.initial.bytes - l.at
