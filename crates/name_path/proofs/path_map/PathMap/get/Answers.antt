use Rattle.std.proofs.Common.{ap, sym, subst, ◌∙◌}
use Rattle.std.specs.FinMap as map
use Rattle.tk_io.specs.View.{entries_view}
use Rattle.tk_io.proofs.SortedEntries.{pair_get, pair_none, Rises}
use Rattle.name_path.proofs.PathMaps.{names_total, names_apart}
use Rattle.name_path.proofs.path_map.PathMap.get.Goals as goal

pub returns-in-Ok : goal.returns-in-Ok
returns-in-Ok g c =
    let entries = c.as_slice-entries.result.now in
    let rises = subst (Rises names_total names_apart (λ k. k)) (sym c.as_slice-entries.ensures.value) c.self.invariant in
    sym (pair_get names_total names_apart (λ k. k) entries c.args.path.now c.in-Ok.i c.index-entries-i.result rises c.in-Ok.ensures)
    ∙ ap (λ m. map.get m c.args.path.now) (ap (λ es. map.from_sorted (entries_view (λ k. k) (λ v. v) es)) c.as_slice-entries.ensures.value ∙ c.self.view_is)

pub returns-in-Err : goal.returns-in-Err
returns-in-Err g c =
    let entries = c.as_slice-entries.result.now in
    let rises = subst (Rises names_total names_apart (λ k. k)) (sym c.as_slice-entries.ensures.value) c.self.invariant in
    sym (pair_none names_total names_apart (λ k. k) entries c.args.path.now c.in-Err.field-0 rises c.in-Err.ensures)
    ∙ ap (λ m. map.get m c.args.path.now) (ap (λ es. map.from_sorted (entries_view (λ k. k) (λ v. v) es)) c.as_slice-entries.ensures.value ∙ c.self.view_is)
