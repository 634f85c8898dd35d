use Rattle.std.proofs.Common.{ap, ◌∙◌}
use Rattle.std.specs.FinMap as map
use Rattle.tk_io.proofs.SortedEntries.{entries_are}
use Rattle.tk_io.specs.Order.{names_cmp}
use Rattle.tk_io.specs.View.{entries_view}
use Rattle.name_path.proofs.path_map.PathMap.as_slice.Goals as goal

pub returns : goal.returns
returns g c =
    ap (entries_view (λ k. k) (λ v. v)) c.as_slice.ensures.value
    ∙ (entries_are names_cmp (entries_view (λ k. k) (λ v. v) c.self.inside.entries.items) c.self.invariant ∙ ap map.entries c.self.view_is)
