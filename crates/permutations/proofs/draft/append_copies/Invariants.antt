-- The sources so far are copied.
use Rattle.std.proofs.Common.{◌≡◌, ◌++◌, take}
use Rattle.permutations.specs.View.{token_sources_view}
use Rattle.permutations.proofs.draft.append_copies.Given as goal

abbrev pub invariant-loop-source : goal.invariant-loop-source
invariant-loop-source l = token_sources_view l.sources ≡ token_sources_view l.fn.sources ++ token_sources_view (take l.source-index l.more)
