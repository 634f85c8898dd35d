-- The tokens so far were looked at.
use Rattle.tree_changes.specs.inner.Links.{AreLinks}
use Rattle.tree_changes.proofs.links.Links.add_all.Given as goal

abbrev pub invariant-loop-i : goal.invariant-loop-i
invariant-loop-i l = AreLinks l.side.old.now l.side.new.now l.i l.self
