use Rattle.std.proofs.Common.{◌≤◌, ◌-◌, length}
use Rattle.std.specs.String.{string_bytes}
use Rattle.std.specs.Str.{IsCharBoundary}
use Rattle.json_span.proofs.TakenCharacters.{Taken}
use Rattle.json_span.proofs.text.decode.Given as goal

-- what is left of the string has the characters that are left
abbrev pub invariant-loop-characters : goal.invariant-loop-characters
invariant-loop-characters l = (l.at ≤ length l.text) × IsCharBoundary l.text l.at × Taken l.text l.from l.at (string_bytes l.characters)

abbrev pub decreases-loop-characters : goal.decreases-loop-characters
decreases-loop-characters l = length l.text - l.at
