-- The lines so far.
use Rattle.std.proofs.Common.{◌≡◌, ◌++◌, take, flat_map}
use Rattle.refusals.specs.Refusal.{detail_line, ring_group}
use Rattle.refusals.proofs.refusal.append_ring_groups.Given as goal

abbrev pub invariant-loop-group : goal.invariant-loop-group
invariant-loop-group l = l.out ≡ l.initial.out ++ flat_map (λ group. detail_line (ring_group group)) (take l.group-index l.group-items)
