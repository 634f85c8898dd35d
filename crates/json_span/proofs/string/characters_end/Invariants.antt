use Rattle.std.proofs.Common.{◌≡◌, ◌≤◌, ◌-◌, length, drop, false}
use Rattle.grammar.specs.Predict.{begins, first}
use Rattle.json_span.specs.Grammar.{unescaped}
use Rattle.json_span.specs.Predictive.{ahead}
use Rattle.json_span.proofs.CharacterScans.{Leads}
use Rattle.json_span.proofs.string.characters_end.Given as goal

-- the place is at the end of a run, and what the rest answers from here is the answer from the start
abbrev pub invariant-loop-end : goal.invariant-loop-end
invariant-loop-end l = (l.end ≤ length l.text) × (begins (first ahead unescaped) (drop l.end l.text) ≡ false) × Leads l.text l.at l.end

abbrev pub decreases-loop-end : goal.decreases-loop-end
decreases-loop-end l = length l.text - l.end
