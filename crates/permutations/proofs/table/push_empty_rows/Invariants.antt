-- A row was added for each number so far.
use Rattle.std.proofs.Common.{◌≡◌, ◌+◌, length}
use Rattle.permutations.proofs.table.push_empty_rows.Given as goal

abbrev pub invariant-loop-number : goal.invariant-loop-number
invariant-loop-number l = length l.rows.items ≡ length l.fn.rows.items + l._number
