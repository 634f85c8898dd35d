-- What is left, put over the members so far, is all.
use Rattle.std.proofs.Common.{◌≡◌, drop}
use Rattle.std.proofs.Common.{map as map_list}
use Rattle.token_tree.specs.View.{member_view, members_view}
use Rattle.group_inherit.specs.Putting.{put_all}
use Rattle.group_inherit.proofs.merging.put_from.Given as goal

abbrev pub invariant-loop-k : goal.invariant-loop-k
invariant-loop-k l = put_all (drop l.k (map_list member_view l.list)) (members_view l.members) ≡ put_all (drop l.i (map_list member_view l.list)) (members_view l.initial.members)
