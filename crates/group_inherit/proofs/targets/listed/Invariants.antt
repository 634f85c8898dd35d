-- the lists so far, and those of the rows that are left
use Rattle.std.proofs.Common.{◌≡◌, ◌++◌, map, drop}
use Rattle.group_inherit.specs.inner.Numbering.{numbers_of}
use Rattle.group_inherit.proofs.targets.listed.Given as goal

abbrev pub invariant-loop-row : goal.invariant-loop-row
invariant-loop-row l = map (λ list. list.items) l.lists.items ++ map numbers_of (drop l.row-index l.rows) ≡ map numbers_of l.rows
