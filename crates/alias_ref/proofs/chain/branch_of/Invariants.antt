use Rattle.std.proofs.Common.{◌≡◌, ◌≤◌, ◌-◌, length, take}
use Rattle.alias_ref.specs.inner.Chains.{branch_of}
use Rattle.alias_ref.proofs.chain.branch_of.Given as goal

abbrev pub decreases-loop-i : goal.decreases-loop-i
decreases-loop-i l = length l.chain - l.at

abbrev pub invariant-loop-i : goal.invariant-loop-i
invariant-loop-i l = (l.branch.items ≡ branch_of l.tokens (take l.at l.chain)) × (l.at ≤ length l.chain)
