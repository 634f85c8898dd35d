use Rattle.std.proofs.Common.{◌≡◌, take, drop}
use Rattle.alias_ref.proofs.trace.rest_of.Given as goal

abbrev pub invariant-loop-place : goal.invariant-loop-place
invariant-loop-place l = l.ring ≡ take l.place-index (drop l.from l.places)
