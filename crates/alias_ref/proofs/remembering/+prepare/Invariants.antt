use Rattle.alias_ref.specs.inner.Chains.{AreAliases}
use Rattle.alias_ref.specs.inner.Remembering.{Remembers}
use Rattle.alias_ref.proofs.remembering.+prepare.Given as goal

abbrev pub decreases-prepare : goal.decreases-prepare
decreases-prepare l = l.left

abbrev pub invariant-loop-place : goal.invariant-loop-place
invariant-loop-place l = Remembers l.flat l.memory.known.items × AreAliases l.flat l.aliases.targets.items
