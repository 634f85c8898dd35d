use Rattle.tk_io.proofs.SortedEntries.{none_is}
use Rattle.name_path.proofs.PathMaps.{names_total, names_apart}
use Rattle.name_path.proofs.path_map.PathMap.new.Goals as goal

pub returns : goal.returns
returns g c = none_is names_total names_apart (λ k. k) c.new.result.items c.new.ensures.items
