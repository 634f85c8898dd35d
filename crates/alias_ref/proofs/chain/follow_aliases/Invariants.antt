use Rattle.std.proofs.Common.{◌≡◌, ◌≤◌, ◌-◌, suc, List, length}
use Rattle.std.specs.FinMap as map
use Rattle.alias_ref.specs.Written.{Step}
use Rattle.alias_ref.specs.Visits.{most_on_branch}
use Rattle.alias_ref.specs.inner.Remembering.{PathStandsAt}
use Rattle.alias_ref.specs.inner.Chains.{HasToken, IsChain, LeadsTo}
use Rattle.alias_ref.proofs.chain.follow_aliases.Given as goal

abbrev pub decreases-loop-chain : goal.decreases-loop-chain
decreases-loop-chain l = suc most_on_branch - length l.chain.items

abbrev pub invariant-loop-chain : goal.invariant-loop-chain
invariant-loop-chain l =
    IsChain (map.entries l.flat) l.aliases.marks.items l.chain.items
    × HasToken (map.entries l.flat) l.at
    × ((token : List Step) → PathStandsAt (map.entries l.flat) token l.i → LeadsTo l.flat token l.chain.items l.at)
    × (l.aliases.targets ≡ l.initial.aliases.targets)
    × (length l.chain.items ≤ most_on_branch)
