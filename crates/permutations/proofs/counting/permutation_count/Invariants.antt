-- The count times the ways to pick from the items to come are all ways.
use Rattle.std.proofs.Common.{◌≡◌, ◌*◌, ◌≤◌, length, drop}
use Rattle.permutations.specs.Answer.{told_number, last_number}
use Rattle.resolver_doc.specs.View.{order_view}
use Rattle.permutations.specs.Permutation.{choices}
use Rattle.permutations.proofs.counting.permutation_count.Given as goal

abbrev pub invariant-loop-item : goal.invariant-loop-item
invariant-loop-item l = record {
  ways : told_number (l.count * length (choices (order_view (drop l.item-index l.order)))) ≡ told_number (length (choices (order_view l.order)));
  small : l.count ≤ last_number;
}
