-- No change is reached from the tokens of which that is said.
use Rattle.std.proofs.Common.{◌≡◌, length}
use Rattle.tree_changes.specs.inner.Settling.{AreSettled}
use Rattle.tree_changes.proofs.settling.settled_tokens.Given as goal

abbrev pub invariant-loop-turn : goal.invariant-loop-turn
invariant-loop-turn l = (length l.settled.items ≡ length l.side.places.now) × AreSettled l.side.old.now l.side.new.now l.settled.items
