use Rattle.std.proofs.Common.{◌≡◌, ℕ, List, length, map, ap, ap₂, sym, ◌∙◌, subst}
use Rattle.std.proofs.lemmas.List.{length-map}
use Rattle.std.specs.List.{All}
use Rattle.permutations.specs.Answer.{told_number}
use Rattle.resolver_doc.specs.View.{sets_view, order_view}
use Rattle.resolver_doc.specs.ResolverView.{resolver_view}
use Rattle.permutations.specs.Permutation.{permutation, permutations, choices, most_sources}
use Rattle.resolver_doc.specs.declared.resolver.Resolver.{Resolver}
use Rattle.resolver_doc.specs.declared.written.Item.{Item}
use Rattle.resolver_doc.specs.declared.written.SetDef.{SetDef}
use Rattle.permutations.specs.declared.part.Row.{Row}
use Rattle.permutations.specs.inner.Counting.{order_most}
use Rattle.permutations.specs.inner.Drafts.{DraftData, drafts_of, finished}
use Rattle.permutations.specs.inner.Parts.{ItemHasRows, row_view, rows_view}
use Rattle.permutations.proofs.Counts.{most_by_items}
use Rattle.permutations.proofs.Drafted.{drafts_are_permutations}
use Rattle.permutations.proofs.Known.{known_items}
use Rattle.permutations.proofs.Limits.{few_permutations, few_sources, many_sources}
use Rattle.permutations.proofs.listing.list.Goals as goal

-- each set that an item names has a row
items_known : (plan : Resolver) (rows : List Row) (sets : List SetDef) (order : List Item) → length (rows_view rows) ≡ length (sets_view sets) → sets ≡ plan.sets → order ≡ plan.order → All (ItemHasRows (length rows)) order
items_known plan rows sets order long same_sets same_order =
    let few : length rows ≡ length (sets_view plan.sets) = sym (length-map rows row_view) ∙ (long ∙ ap (λ (xs : List SetDef). length (sets_view xs)) same_sets) in
    subst (λ (items : List Item). All (ItemHasRows (length rows)) items) (sym same_order)
    (subst (λ (n : ℕ). All (ItemHasRows n) plan.order) (sym few) (known_items (sets_view plan.sets) plan.order plan.order_right))

-- the number of permutations, and the greatest number of sources
count_told : (plan : Resolver) (order : List Item) (n : ℕ) → order ≡ plan.order → n ≡ told_number (length (choices (order_view order))) → n ≡ told_number (length (permutations (resolver_view plan)))
count_told plan order n same is =
    is ∙ (ap (λ (items : List Item). told_number (length (choices (order_view items)))) same
    ∙ ap told_number (sym (length-map (choices (order_view plan.order)) (permutation (sets_view plan.sets)))))

most_told : (plan : Resolver) (sets : List SetDef) (order : List Item) (n : ℕ) → sets ≡ plan.sets → order ≡ plan.order → n ≡ told_number (order_most (sets_view sets) (order_view order)) → n ≡ told_number (most_sources (resolver_view plan))
most_told plan sets order n same_sets same_order is =
    is ∙ (ap₂ (λ (xs : List SetDef) (items : List Item). told_number (order_most (sets_view xs) (order_view items))) same_sets same_order
    ∙ ap told_number (sym (most_by_items (resolver_view plan) plan.choices)))

pub most_sources-most-requires-clause-known : goal.most_sources-most-requires-clause-known
most_sources-most-requires-clause-known c = items_known c.args.plan.now c.in_ok-table.table.rows.items _ _ c.in_ok-table.ensures.tells.long c.in_ok-table.ensures.sets c.as_slice-order.ensures

pub drafts_of-requires-clause-known : goal.drafts_of-requires-clause-known
drafts_of-requires-clause-known c = items_known c.args.plan.now c.in_ok-table.table.rows.items _ _ c.in_ok-table.ensures.tells.long c.in_ok-table.ensures.sets c.as_slice-order.ensures

pub returns-then-most-gt-MOST_SOURCES-clause-fault : goal.returns-then-most-gt-MOST_SOURCES-clause-fault
returns-then-most-gt-MOST_SOURCES-clause-fault c =
    let plan = c.args.plan.now in
    let count = count_told plan _ _ c.as_slice-order.ensures c.permutation_count-count.ensures in
    let most = most_told plan _ _ _ c.in_ok-table.ensures.sets c.as_slice-order.ensures c.most_sources-most.ensures in
    record {
      few = few_permutations c.permutation_count-count.result (length (permutations (resolver_view plan))) count c.if-count-gt-MOST_PERMUTATIONS.false;
      many = many_sources c.most_sources-most.result (most_sources (resolver_view plan)) most c.if-most-gt-MOST_SOURCES.true;
      number = most;
    }

pub returns-clause-within : goal.returns-clause-within
returns-clause-within c =
    let plan = c.args.plan.now in
    let count = count_told plan _ _ c.as_slice-order.ensures c.permutation_count-count.ensures in
    let most = most_told plan _ _ _ c.in_ok-table.ensures.sets c.as_slice-order.ensures c.most_sources-most.ensures in
    record {
      few = few_permutations c.permutation_count-count.result (length (permutations (resolver_view plan))) count c.if-count-gt-MOST_PERMUTATIONS.false;
      short = few_sources c.most_sources-most.result (most_sources (resolver_view plan)) most c.if-most-gt-MOST_SOURCES.false;
    }

pub returns-clause-perms : goal.returns-clause-perms
returns-clause-perms c =
    let plan = resolver_view c.args.plan.now in
    c.in_ok-all_finished.ensures
    ∙ (ap (λ (ds : List DraftData). map finished ds) c.in_ok-drafts.ensures
    ∙ (ap₂ (λ (ss : List SetDef) (order : List Item). map finished (drafts_of (sets_view ss) (order_view order))) c.in_ok-table.ensures.sets c.as_slice-order.ensures
    ∙ drafts_are_permutations plan.sets plan.order))
