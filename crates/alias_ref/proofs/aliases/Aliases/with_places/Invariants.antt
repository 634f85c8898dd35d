use Rattle.alias_ref.specs.inner.Chains.{HasNone}
use Rattle.alias_ref.proofs.aliases.Aliases.with_places.Given as goal

abbrev pub decreases-loop-left : goal.decreases-loop-left
decreases-loop-left l = l.left

abbrev pub invariant-loop-left : goal.invariant-loop-left
invariant-loop-left l = HasNone l.targets.items
