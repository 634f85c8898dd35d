-- The drafts so far have more, and the others are as they were.
use Rattle.std.proofs.Common.{◌≡◌, ◌++◌, map, take, drop}
use Rattle.permutations.specs.inner.Drafts.{draft_view, drafts_view, with_more}
use Rattle.permutations.proofs.draft.add_to_each.Given as goal

abbrev pub invariant-loop-draft : goal.invariant-loop-draft
invariant-loop-draft l = drafts_view l.drafts ≡ map (λ d. with_more d (draft_view l.more)) (drafts_view (take l.draft-index l.fn.drafts)) ++ drafts_view (drop l.draft-index l.fn.drafts)
