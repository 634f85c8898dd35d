-- The drafts of the items so far.
use Rattle.std.proofs.Common.{◌≡◌, take}
use Rattle.resolver_doc.specs.View.{sets_view, order_view}
use Rattle.permutations.specs.inner.Drafts.{drafts_view, drafts_of}
use Rattle.permutations.proofs.options.drafts_of.Given as goal

abbrev pub invariant-loop-item : goal.invariant-loop-item
invariant-loop-item l = drafts_view l.drafts.items ≡ drafts_of (sets_view l.table.sets.now) (order_view (take l.item-index l.order))
