-- The rows of the numbers so far are put, and no row is added.
use Rattle.std.proofs.Common.{◌≡◌, fold, length, take}
use Rattle.resolver_doc.specs.View.{sets_view}
use Rattle.permutations.specs.inner.Parts.{rows_view, with_row}
use Rattle.permutations.proofs.table.fill.Given as goal

abbrev pub invariant-loop-number : goal.invariant-loop-number
invariant-loop-number l = record {
  long : length l.rows.items ≡ length l.sets;
  filled : rows_view l.rows.items ≡ fold (with_row (sets_view l.sets)) (rows_view l.fn.rows.items) (take l.number-index l.order);
}
