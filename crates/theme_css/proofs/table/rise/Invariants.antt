-- The names so far rise.
use Rattle.std.proofs.Common.{◌≤◌, ◌-◌}
use Rattle.theme_css.proofs.Rising.{RisesFrom}
use Rattle.theme_css.proofs.table.rise.Given as goal

abbrev pub invariant-loop-i : goal.invariant-loop-i
invariant-loop-i l = (1 ≤ l.i) × (RisesFrom (λ n. n.now) l.names.items (l.i - 1) → RisesFrom (λ n. n.now) l.names.items 0)
