-- The sum over the items so far.
use Rattle.std.proofs.Common.{◌≡◌, take}
use Rattle.permutations.specs.Answer.{told_number}
use Rattle.resolver_doc.specs.View.{sets_view, order_view}
use Rattle.permutations.specs.inner.Counting.{order_most}
use Rattle.permutations.proofs.counting.most_sources.Given as goal

abbrev pub invariant-loop-item : goal.invariant-loop-item
invariant-loop-item l = l.most ≡ told_number (order_most (sets_view l.table.sets.now) (order_view (take l.item-index l.order)))
