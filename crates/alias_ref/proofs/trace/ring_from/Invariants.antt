use Rattle.std.proofs.Common.{◌≡◌, drop}
use Rattle.alias_ref.specs.Visits.{since}
use Rattle.alias_ref.proofs.trace.ring_from.Given as goal

abbrev pub invariant-loop-i : goal.invariant-loop-i
invariant-loop-i l = since l.place (drop l.i l.places) ≡ since l.place l.places
