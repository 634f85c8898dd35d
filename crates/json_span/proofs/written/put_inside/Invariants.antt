use Rattle.std.proofs.Common.{◌≡◌, ◌-◌, ◌≤◌, ◌++◌, length, drop}
use Rattle.tk_io.specs.Writing.{Extends}
use Rattle.json_span.specs.Spelling.{inside_text}
use Rattle.json_span.proofs.written.put_inside.Given as goal

-- what is still to be written completes what was written
abbrev pub invariant-loop-out : goal.invariant-loop-out
invariant-loop-out l = record {
  within : l.at ≤ length l.text;
  completes : l.out ++ inside_text (drop l.at l.text) ≡ l.fn.out ++ inside_text l.text;
  extends : Extends l.fn.out l.out;
}

abbrev pub decreases-loop-out : goal.decreases-loop-out
decreases-loop-out l = length l.text - l.at
