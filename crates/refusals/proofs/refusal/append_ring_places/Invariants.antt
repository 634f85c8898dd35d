-- The lines so far.
use Rattle.std.proofs.Common.{◌≡◌, ◌++◌, take, flat_map}
use Rattle.refusals.specs.Refusal.{detail_line, ring_place}
use Rattle.refusals.proofs.refusal.append_ring_places.Given as goal

abbrev pub invariant-loop-place : goal.invariant-loop-place
invariant-loop-place l = l.out ≡ l.initial.out ++ flat_map (λ place. detail_line (ring_place place)) (take l.place-index l.place-items)
