use Rattle.std.specs.Cmp.Lexicographic.{nat_list_cmp_total}
use Rattle.std.specs.String.{string_bytes}
use Rattle.tk_io.proofs.SortedEntries.{none_is}
use Rattle.tk_io.proofs.TextMaps.{text_cmp-IsAntisymmetric}
use Rattle.tk_io.proofs.text_map.TextMap.new.Goals as goal

pub returns : goal.returns
returns g c = none_is nat_list_cmp_total text_cmp-IsAntisymmetric string_bytes c.new.result.items c.new.ensures.items
