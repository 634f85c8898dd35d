use Rattle.std.proofs.Common.{◌≡◌, ℕ, length, get_or, take}
use Rattle.ring.specs.Lists.{In}
use Rattle.ring.specs.Graph.{needs_in}
use Rattle.ring.specs.Values.{IsTotal}
use Rattle.ring.proofs.totals.capped_totals.Given as goal

-- the totals of the nodes so far are known
abbrev pub invariant-loop-v : goal.invariant-loop-v
invariant-loop-v l = record {
  long : length l.table.items ≡ length l.graph;
  known : (v : ℕ) → In v (take l.v-index l.order) → IsTotal (needs_in l.graph) l.own v (get_or l.table.items v 0);
}
