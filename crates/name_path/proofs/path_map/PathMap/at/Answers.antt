use Rattle.std.proofs.Common.{option_map, ap, sym, ◌∙◌}
use Rattle.std.specs.FinMap as map
use Rattle.std.specs.List.{slice_get}
use Rattle.std.specs.Option.{option_copied}
use Rattle.tk_io.proofs.MapViews.{item_shown}
use Rattle.tk_io.proofs.SortedEntries.{entries_are}
use Rattle.tk_io.specs.Order.{names_cmp}
use Rattle.tk_io.specs.View.{entries_view}
use Rattle.name_path.proofs.path_map.PathMap.at.Goals as goal

pub returns-in-Some : goal.returns-in-Some
returns-in-Some g c =
    let es = c.self.inside.entries.items in
    let found = ap option_copied (sym c.in-Some.is) ∙ (c.entry_at.ensures ∙ ap (λ l. slice_get l c.args.i) c.as_slice.ensures.value) in
    ap (λ r. option_map (λ e. (e.0, e.1)) r) found
    ∙ (item_shown (λ k. k) (λ v. v) es c.args.i
    ∙ ap (λ l. slice_get l c.args.i) (entries_are names_cmp (entries_view (λ k. k) (λ v. v) es) c.self.invariant ∙ ap map.entries c.self.view_is))

pub returns-in-None : goal.returns-in-None
returns-in-None g c =
    let es = c.self.inside.entries.items in
    let found = ap option_copied (sym c.in-None.is) ∙ (c.entry_at.ensures ∙ ap (λ l. slice_get l c.args.i) c.as_slice.ensures.value) in
    ap (λ r. option_map (λ e. (e.0, e.1)) r) found
    ∙ (item_shown (λ k. k) (λ v. v) es c.args.i
    ∙ ap (λ l. slice_get l c.args.i) (entries_are names_cmp (entries_view (λ k. k) (λ v. v) es) c.self.invariant ∙ ap map.entries c.self.view_is))
