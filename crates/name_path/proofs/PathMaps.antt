-- The order of paths, as the keys of maps have it.
use Rattle.std.specs.Cmp.{IsTotalOrder}
use Rattle.std.specs.Cmp.Lexicographic.{lists_total, nat_list_cmp_total}
use Rattle.std.specs.FinMap.{IsAntisymmetric, slice_cmp-IsAntisymmetric, nat_cmp-IsAntisymmetric}
use Rattle.tk_io.specs.Order.{names_cmp}

pub names_total : IsTotalOrder names_cmp
names_total = lists_total nat_list_cmp_total

pub names_apart : IsAntisymmetric names_cmp
names_apart = slice_cmp-IsAntisymmetric (slice_cmp-IsAntisymmetric nat_cmp-IsAntisymmetric)
