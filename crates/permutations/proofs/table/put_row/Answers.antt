use Rattle.std.proofs.Common.{◌≡◌, set, ap, ap₂, ◌∙◌, List}
use Rattle.std.proofs.lemmas.List.{map-set}
use Rattle.resolver_doc.specs.Document.{SourceData}
use Rattle.resolver_doc.specs.View.{sources_view, sets_view}
use Rattle.permutations.specs.Permutation.{sources_written}
use Rattle.permutations.specs.inner.Parts.{RowData, row_view, rows_view, row_in}
use Rattle.permutations.proofs.Known.{written_found}
use Rattle.permutations.proofs.table.put_row.Goals as goal

pub returns-clause-row : goal.returns-clause-row
returns-clause-row c =
    let rows = c.args.rows.now.items in
    let found = c.in-Some.ensures.lookup.3 in
    let sources : sources_view c.as_slice.result.now ≡ sources_written (sets_view c.args.sets.now) c.args.number =
    ap sources_view c.as_slice.ensures ∙ written_found c.args.sets.now c.args.number c.in-Some.set.now found.0 (found.1 c.in-Some.set.now) in
    let row : row_view c.in_ok-rows.field-0 ≡ row_in (rows_view rows) (sources_written (sets_view c.args.sets.now) c.args.number) =
    c.in_ok-rows.ensures ∙ ap₂ (λ (rs : List RowData) (ss : List SourceData). row_in rs ss) (ap rows_view c.as_slice-2.ensures.value) sources in
    map-set row_view rows c.args.number c.in_ok-rows.field-0 ∙ ap (λ (r : RowData). set (rows_view rows) c.args.number r) row
