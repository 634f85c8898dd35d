-- The table has as many groups as there were turns.
use Rattle.std.proofs.Common.{◌≡◌, length}
use Rattle.group_inherit.proofs.expanding.blank.Given as goal

abbrev pub invariant-loop-i : goal.invariant-loop-i
invariant-loop-i l = length l.table.items ≡ l._i
