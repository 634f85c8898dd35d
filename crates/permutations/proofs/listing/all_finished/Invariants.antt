-- The drafts so far are finished.
use Rattle.std.proofs.Common.{◌≡◌, map}
use Rattle.permutations.specs.View.{perms_view}
use Rattle.permutations.specs.inner.Drafts.{draft_view, finished}
use Rattle.permutations.proofs.listing.all_finished.Given as goal

abbrev pub invariant-loop-draft : goal.invariant-loop-draft
invariant-loop-draft l = perms_view l.perms ≡ map (λ d. finished (draft_view d)) l.yielded
