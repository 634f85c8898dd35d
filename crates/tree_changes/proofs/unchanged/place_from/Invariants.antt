-- The tokens that were passed stand before the path, and each turn leaves one token less to look at.
use Rattle.std.proofs.Common.{◌-◌, length}
use Rattle.tree_changes.specs.inner.Places.{IsPassed}
use Rattle.tree_changes.proofs.unchanged.place_from.Given as goal

abbrev pub invariant-loop-token : goal.invariant-loop-token
invariant-loop-token l = IsPassed l.tokens l.path l.at

abbrev pub decreases-loop-token : goal.decreases-loop-token
decreases-loop-token l = length l.tokens - l.at
