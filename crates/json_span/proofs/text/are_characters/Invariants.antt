use Rattle.std.proofs.Common.{◌≤◌, ◌-◌, length}
use Rattle.json_span.proofs.Matching.{Matched}
use Rattle.json_span.proofs.text.are_characters.Given as goal

-- what is left of the string has the characters that are left
abbrev pub invariant-loop-behind : goal.invariant-loop-behind
invariant-loop-behind l = (l.at ≤ length l.text) × Matched l.text l.from l.at l.characters l.rest

abbrev pub decreases-loop-behind : goal.decreases-loop-behind
decreases-loop-behind l = length l.text - l.at
