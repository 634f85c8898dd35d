-- With the numbers that are still to come, all are listed.
use Rattle.std.proofs.Common.{◌≡◌, ◌++◌, ◌-◌}
use Rattle.std.specs.List.{range_with_len}
use Rattle.resolver_doc.proofs.graph.numbers_below.Given as goal

abbrev pub invariant-loop-number : goal.invariant-loop-number
invariant-loop-number l = l.row.items ++ range_with_len l.number (l.n - l.number) ≡ range_with_len 0 l.n
