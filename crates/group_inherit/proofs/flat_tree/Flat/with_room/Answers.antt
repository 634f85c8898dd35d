use Rattle.std.specs.Cmp.Lexicographic.{lists_total, nat_list_cmp_total}
use Rattle.std.specs.FinMap.{slice_cmp-IsAntisymmetric, nat_cmp-IsAntisymmetric}
use Rattle.group_inherit.proofs.Halves.{no_entries}
use Rattle.group_inherit.proofs.flat_tree.Flat.with_room.Goals as goal

pub returns : goal.returns
returns c = no_entries (lists_total nat_list_cmp_total) (slice_cmp-IsAntisymmetric (slice_cmp-IsAntisymmetric nat_cmp-IsAntisymmetric)) c.room_for.result.items c.room_for.ensures
