-- The options so far are added to the draft.
use Rattle.std.proofs.Common.{◌≡◌, ◌++◌, map, take}
use Rattle.permutations.specs.inner.Drafts.{draft_view, drafts_view, with_more}
use Rattle.permutations.proofs.draft.append_each.Given as goal

abbrev pub invariant-loop-option : goal.invariant-loop-option
invariant-loop-option l = drafts_view l.out.items ≡ drafts_view l.fn.out.items ++ map (with_more (draft_view l.draft)) (drafts_view (take l.option-index l.options))
