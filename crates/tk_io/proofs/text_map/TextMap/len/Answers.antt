use Rattle.std.proofs.Common.{length, ap, ◌∙◌}
use Rattle.std.specs.Cmp.Lexicographic.{nat_list_cmp_total}
use Rattle.std.specs.FinMap as map
use Rattle.std.specs.String.{string_bytes}
use Rattle.tk_io.proofs.SortedEntries.{size_is}
use Rattle.tk_io.proofs.TextMaps.{text_cmp-IsAntisymmetric}
use Rattle.tk_io.proofs.text_map.TextMap.len.Goals as goal

pub returns : goal.returns
returns g c =
    ap length c.as_slice.ensures.value
    ∙ (size_is nat_list_cmp_total text_cmp-IsAntisymmetric string_bytes c.self.inside.entries.items c.self.invariant ∙ ap map.len c.self.view_is)
