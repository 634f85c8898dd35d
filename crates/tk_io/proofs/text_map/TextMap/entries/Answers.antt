use Rattle.std.proofs.Common.{ap, ◌∙◌}
use Rattle.std.specs.FinMap as map
use Rattle.std.specs.String.{string_bytes}
use Rattle.tk_io.proofs.SortedEntries.{entries_are}
use Rattle.tk_io.specs.Order.{text_cmp}
use Rattle.tk_io.specs.View.{entries_view}
use Rattle.tk_io.proofs.text_map.TextMap.entries.Goals as goal

pub returns : goal.returns
returns g c =
    ap (entries_view string_bytes (λ v. v)) c.as_slice.ensures.value
    ∙ (entries_are text_cmp (entries_view string_bytes (λ v. v) c.self.inside.entries.items) c.self.invariant ∙ ap map.entries c.self.view_is)
