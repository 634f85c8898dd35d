-- The drafts so far have each option.
use Rattle.std.proofs.Common.{◌≡◌, take}
use Rattle.permutations.specs.inner.Drafts.{drafts_view, with_each}
use Rattle.permutations.proofs.draft.each_with_each.Given as goal

abbrev pub invariant-loop-draft : goal.invariant-loop-draft
invariant-loop-draft l = drafts_view l.new.items ≡ with_each (drafts_view (take l.draft-index l.drafts)) (drafts_view l.options)
