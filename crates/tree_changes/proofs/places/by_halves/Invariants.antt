-- What stands before the part that is left stands before the path, and what stands behind it behind the path.
use Rattle.std.proofs.Common.{◌≡◌, ◌≤◌, ◌-◌, length, Greater}
use Rattle.std.specs.List.{AllWithin}
use Rattle.tk_io.specs.Order.{names_cmp}
use Rattle.group_inherit.specs.Flattening.{TokenAt}
use Rattle.tree_changes.specs.inner.Places.{IsPassed}
use Rattle.tree_changes.proofs.places.by_halves.Given as goal

abbrev pub decreases-loop-low : goal.decreases-loop-low
decreases-loop-low l = l.high - l.low

abbrev pub invariant-loop-low : goal.invariant-loop-low
invariant-loop-low l = record {
  in_order : l.low ≤ l.high;
  within : l.high ≤ length l.tokens;
  passed : IsPassed l.tokens l.path l.low;
  ahead : AllWithin (λ (t : TokenAt). names_cmp t.0 l.path ≡ Greater) l.tokens l.high (length l.tokens);
}
