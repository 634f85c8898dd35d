-- The heights of the groups so far are known.
use Rattle.std.proofs.Common.{◌≡◌, ℕ, length, take}
use Rattle.ring.specs.Lists.{In}
use Rattle.group_inherit.specs.inner.Outcomes.{HoldsHeight}
use Rattle.group_inherit.specs.inner.View.{nodes_view}
use Rattle.group_inherit.proofs.sizes.capped_heights.Given as goal

abbrev pub invariant-loop-v : goal.invariant-loop-v
invariant-loop-v l = record {
  long : length l.table.items ≡ length l.nodes;
  known : (v : ℕ) → In v (take l.v-index l.order) → HoldsHeight (nodes_view l.nodes) l.table.items v;
}
