-- The most of the contexts so far.
use Rattle.std.proofs.Common.{◌≡◌, map, take}
use Rattle.permutations.specs.Answer.{told_number}
use Rattle.resolver_doc.specs.View.{sets_view}
use Rattle.permutations.specs.Permutation.{greatest}
use Rattle.permutations.specs.inner.Counting.{source_count}
use Rattle.permutations.proofs.counting.most_in.Given as goal

abbrev pub invariant-loop-context : goal.invariant-loop-context
invariant-loop-context l = l.most ≡ told_number (greatest (map (λ c. source_count (sets_view l.table.sets.now) c.sources) (sets_view (take l.context-index l.contexts))))
