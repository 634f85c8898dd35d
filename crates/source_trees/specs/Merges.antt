-- What a merged tree comes to.
use Rattle.std.specs.Prelude.{◌≢◌}
use Rattle.token_tree.specs.Tree.{Group}
use Rattle.group_inherit.specs.Answer.{IsSound, IsFlat, IsTreeBreak}
use Rattle.group_inherit.specs.declared.fault.TreeFault.TheVariants.{NoMemory}
use Rattle.source_trees.specs.declared.merge.Merge.{Merge}
use Rattle.source_trees.specs.declared.merge.Merge.TheVariants.{Flat, Broken}

abbrev pub IsMergeOf : Group → Merge → Type 0
IsMergeOf tree (Flat flat) = IsSound tree × IsFlat tree flat
IsMergeOf tree (Broken fault) = (fault ≢ NoMemory) × IsTreeBreak tree fault
