-- The lines so far.
use Rattle.std.proofs.Common.{◌≡◌, ◌++◌, take, flat_map}
use Rattle.refusals.specs.Refusal.{detail_line, ring_set}
use Rattle.refusals.proofs.refusal.append_ring_sets.Given as goal

abbrev pub invariant-loop-name : goal.invariant-loop-name
invariant-loop-name l = l.out ≡ l.fn.out ++ flat_map (λ name. detail_line (ring_set name)) (take l.name-index l.name-items)
