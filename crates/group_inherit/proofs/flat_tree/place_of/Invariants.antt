-- The path is after what stands before the part that is left, and before what stands after it.
use Rattle.std.proofs.Common.{◌≤◌, ◌-◌, take, drop, length}
use Rattle.tk_io.specs.Order.{names_cmp}
use Rattle.group_inherit.specs.inner.Halves.{IsBehindAll, IsBeforeAll}
use Rattle.group_inherit.proofs.flat_tree.place_of.Given as goal

abbrev pub decreases-loop-low : goal.decreases-loop-low
decreases-loop-low l = l.high - l.low

abbrev pub invariant-loop-low : goal.invariant-loop-low
invariant-loop-low l = record {
  in_order : l.low ≤ l.high;
  within : l.high ≤ length l.tokens;
  passed : IsBehindAll names_cmp l.path (take l.low l.tokens);
  ahead : IsBeforeAll names_cmp l.path (drop l.high l.tokens);
}
