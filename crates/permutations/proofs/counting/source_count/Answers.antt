use Rattle.std.proofs.Common.{◌≡◌, ℕ, length, ap, sym, ◌∙◌, subst}
use Rattle.std.proofs.lemmas.List.{length-map}
use Rattle.resolver_doc.specs.View.{sets_view, sources_view}
use Rattle.permutations.specs.Permutation.{set_sources}
use Rattle.permutations.specs.inner.Parts.{row_view, rows_view, counts_in, HaveRows}
use Rattle.permutations.proofs.Known.{named_known}
use Rattle.permutations.proofs.Stacks.{all_counted}
use Rattle.permutations.proofs.counting.source_count.Goals as goal

pub returns : goal.returns
returns c =
    let sets = sets_view c.args.table.now.sets.now in
    let rows = rows_view c.args.table.now.rows.items in
    let has_rows : length c.args.table.now.rows.items ≡ length sets = sym (length-map c.args.table.now.rows.items row_view) ∙ c.requires.tells.long in
    let known = subst (λ (m : ℕ). HaveRows m c.args.written.now) has_rows c.requires.known in
    c.counts_of.ensures
    ∙ (ap (λ rs. counts_in (rows_view rs) (sources_view c.args.written.now)) c.as_slice.ensures.value
    ∙ all_counted (set_sources sets) (length sets) rows c.requires.tells (sources_view c.args.written.now) (named_known (length sets) c.args.written.now known))
