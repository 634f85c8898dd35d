use Rattle.std.proofs.Common.{length, ap, ◌∙◌}
use Rattle.std.specs.FinMap as map
use Rattle.tk_io.proofs.SortedEntries.{size_is}
use Rattle.name_path.proofs.PathMaps.{names_total, names_apart}
use Rattle.name_path.proofs.path_map.PathMap.len.Goals as goal

pub returns : goal.returns
returns g c =
    ap length c.as_slice.ensures.value
    ∙ (size_is names_total names_apart (λ k. k) c.self.inside.entries.items c.self.invariant ∙ ap map.len c.self.view_is)
