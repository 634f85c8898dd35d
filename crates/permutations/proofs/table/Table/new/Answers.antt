use Rattle.std.proofs.Common.{◌≡◌, ℕ, true, List, length, ap, sym, ◌∙◌, subst, arith}
use Rattle.std.proofs.lemmas.List.{length-map}
use Rattle.std.specs.List.{All, fold}
use Rattle.resolver_doc.specs.Rings.{are_sets_right, HasNoRingOfSets}
use Rattle.resolver_doc.specs.View.{set_view, sets_view}
use Rattle.permutations.specs.Permutation.{set_sources}
use Rattle.permutations.specs.inner.Parts.{HaveRows, IsTable, row_view, rows_view, with_row}
use Rattle.permutations.specs.inner.Orders.{IsSetOrder}
use Rattle.permutations.proofs.Filling.{table_made}
use Rattle.permutations.proofs.Known.{known_sets}
use Rattle.permutations.proofs.table.Table.new.Goals as goal

pub fill-requires-clause-known : goal.fill-requires-clause-known
fill-requires-clause-known c =
    let sets = c.as_slice-sets.result.now in
    let same : sets ≡ c.args.plan.now.sets = c.as_slice-sets.ensures in
    let right = subst (λ ss. are_sets_right (sets_view ss) (sets_view ss) ≡ true) (sym same) c.args.plan.now.sets_right in
    subst (λ n. All (λ s. HaveRows n s.sources) sets) (length-map sets set_view) (known_sets (sets_view sets) sets right)

pub returns-clause-tells : goal.returns-clause-tells
returns-clause-tells c =
    let sets = c.as_slice-sets.result.now in
    let same : sets ≡ c.args.plan.now.sets = c.as_slice-sets.ensures in
    let right = subst (λ ss. are_sets_right (sets_view ss) (sets_view ss) ≡ true) (sym same) c.args.plan.now.sets_right in
    let none = subst (λ ss. HasNoRingOfSets (sets_view ss)) (sym same) c.args.plan.now.no_ring in
    let order = subst (λ ss. IsSetOrder (sets_view ss) c.in_ok-order.order.items) (sym same) c.in_ok-order.ensures in
    let empty = c.push_empty_rows.new.rows.items in
    let long : length (rows_view empty) ≡ length (sets_view sets) =
    omega (arith, length-map empty row_view, length-map sets set_view, c.in_ok-push_empty_rows.ensures, ap length c.new-rows.ensures.items) in
    subst (λ rows. IsTable (set_sources (sets_view sets)) (length (sets_view sets)) rows)
    (sym (c.in_ok-fill.ensures ∙ ap (λ (order : List ℕ). fold (with_row (sets_view sets)) (rows_view empty) order) c.as_slice.ensures.value))
    (table_made (sets_view sets) right none (rows_view empty) c.in_ok-order.order.items long order)
