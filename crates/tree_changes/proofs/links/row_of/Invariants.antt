-- The row has the places of the names so far.
use Rattle.std.proofs.Common.{take}
use Rattle.tree_changes.specs.inner.Links.{AreNamed}
use Rattle.tree_changes.proofs.links.row_of.Given as goal

abbrev pub invariant-loop-name : goal.invariant-loop-name
invariant-loop-name l = AreNamed l.old l.new (take l.name-index l.names) l.row.items
