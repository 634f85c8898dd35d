use Rattle.std.proofs.Common.{◌≡◌, take, map}
use Rattle.name_path.specs.Reference.{escaped_step}
use Rattle.name_path.proofs.reading.decoded.Given as goal

abbrev pub invariant-loop-segment : goal.invariant-loop-segment
invariant-loop-segment l = map escaped_step l.steps ≡ take l.segment-index l.segments
