use Rattle.std.proofs.Common.{◌≡◌, ◌-◌, drop, get_or}
use Rattle.json_span.specs.inner.NameOrder.{again_in, again_behind, least}
use Rattle.json_span.proofs.NameOrder.{no_placed}
use Rattle.json_span.proofs.names.first_again.Given as goal

-- the least place so far, and those still to come
abbrev pub invariant-loop-i : goal.invariant-loop-i
invariant-loop-i l = again_in l.sorted ≡ least l.first (again_behind (get_or l.sorted (l.i - 1) no_placed) (drop l.i l.sorted))
