-- The copies, and what is left, are all.
use Rattle.std.proofs.Common.{◌≡◌, ◌++◌, drop}
use Rattle.token_tree.specs.MembersView.{entries_of}
use Rattle.token_tree.proofs.entries.copy_list.Given as goal

abbrev pub invariant-loop-member : goal.invariant-loop-member
invariant-loop-member l = entries_of l.copies.items ++ drop l.member-index (entries_of l.list) ≡ entries_of l.list
