use Rattle.std.proofs.Common.{◌≤◌, ◌-◌, length}
use Rattle.json_span.specs.inner.Skipping.{left_of, ContinuesAs}
use Rattle.json_span.proofs.skip.skip.Given as goal

-- what the rest answers from here is the answer from the start
abbrev pub invariant-loop-wants : goal.invariant-loop-wants
invariant-loop-wants l = (l.at ≤ length l.text) × ContinuesAs l.text (left_of l.fn.wants_first l.fn.brackets.items) l.from (left_of l.wants l.brackets.items) l.at

abbrev pub decreases-loop-wants : goal.decreases-loop-wants
decreases-loop-wants l = length l.text - l.at
