-- The options of the contexts so far.
use Rattle.std.proofs.Common.{◌≡◌, map, take}
use Rattle.resolver_doc.specs.View.{sets_view}
use Rattle.permutations.specs.Permutation.{context_pick}
use Rattle.permutations.specs.inner.Drafts.{drafts_view, pick_draft}
use Rattle.permutations.proofs.options.context_options.Given as goal

abbrev pub invariant-loop-context : goal.invariant-loop-context
invariant-loop-context l = drafts_view l.options.items ≡ map (pick_draft (sets_view l.table.sets.now)) (map (context_pick l.modifier) (sets_view (take l.context-index l.contexts)))
