use Rattle.std.proofs.Common.{ℕ, ◌≤◌, length, drop}
use Rattle.std.specs.Prelude.{Result}
use Rattle.json_span.specs.inner.Scan.{Scans, row_of}
use Rattle.json_span.proofs.bytes.row_end.Given as goal

-- what the rest of the row answers from here is the answer from the start
abbrev pub invariant-loop-class : goal.invariant-loop-class
invariant-loop-class l = (l.end ≤ length l.text) × ((r : Result ℕ ℕ) → Scans (row_of (drop l.class-index l.classes)) l.text l.end r → Scans (row_of l.classes) l.text l.at r)
