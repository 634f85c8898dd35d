-- The places so far are looked up, and there is room for each of them.
use Rattle.std.proofs.Common.{◌≡◌, length}
use Rattle.tree_changes.proofs.Calm.{AreMovedBelow}
use Rattle.tree_changes.proofs.settling.moved_places.Given as goal

abbrev pub invariant-loop-i : goal.invariant-loop-i
invariant-loop-i l = (length l.moved.items ≡ l.tokens) × AreMovedBelow l.i l.places l.moved.items
