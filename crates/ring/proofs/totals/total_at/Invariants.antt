use Rattle.std.proofs.Common.{◌≡◌, ◌+◌, min, get_or, take}
use Rattle.std.specs.List.{sum_by}
use Rattle.ring.proofs.totals.total_at.Given as goal

-- what the node has so far
abbrev pub invariant-loop-w : goal.invariant-loop-w
invariant-loop-w l = l.total ≡ min (l.own + sum_by (λ w. get_or l.table w 0) (take l.w-index l.needs)) 1000000
