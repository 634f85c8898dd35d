use Rattle.std.proofs.Common.{◌≡◌, ◌<◌, ◌≤◌, ◌-◌, length, drop, true}
use Rattle.grammar.specs.Predict.{begins, first}
use Rattle.json_span.specs.Grammar.{one}
use Rattle.json_span.specs.Predictive.{ahead}
use Rattle.json_span.specs.inner.Skipping.{left_of, ContinuesAs}
use Rattle.json_span.proofs.skip.open_row.Given as goal

-- a square bracket stands there, and what the rest answers from there is the answer from the start
abbrev pub invariant-loop-brackets : goal.invariant-loop-brackets
invariant-loop-brackets l = record {
  forward : l.from ≤ l.at;
  within : l.at < length l.text;
  sees : begins (first ahead (one 91)) (drop l.at l.text) ≡ true;
  leads : ContinuesAs l.text (left_of true l.initial.brackets.items) l.from (left_of true l.brackets.items) l.at;
}

abbrev pub decreases-loop-brackets : goal.decreases-loop-brackets
decreases-loop-brackets l = length l.text - l.at
