use Rattle.std.proofs.Common.{◌≡◌, ◌+◌, List, Some, drop, sym, ap, subst, ◌∙◌}
use Rattle.std.proofs.lemmas.Cmp.{lists_total}
use Rattle.std.proofs.lemmas.List.{drop_all}
use Rattle.std.specs.Cmp.Lexicographic.{nat_list_cmp_total}
use Rattle.std.specs.FinMap as finite
use Rattle.std.specs.Cmp.{IsTotalOrder}
use Rattle.std.specs.FinMap.{IsAntisymmetric, nat_cmp-IsAntisymmetric, slice_cmp-IsAntisymmetric}
use Rattle.ring.specs.Lists.{In}
use Rattle.tk_io.specs.Order.{names_cmp}
use Rattle.group_inherit.specs.Flattening.{TokenAt}
use Rattle.alias_ref.specs.Laws.{Flat}
use Rattle.tree_changes.proofs.MapEntries.{entry_found}
use Rattle.rebuild_core.proofs.FilledMaps.{Filled, filled_start, filled_next, filled_end, put_here, put_other, entries_next, item_in}
use Rattle.rebuild_core.proofs.copying.copy_flat.Goals as goal

order : IsTotalOrder names_cmp
order = lists_total nat_list_cmp_total

apart : IsAntisymmetric names_cmp
apart = slice_cmp-IsAntisymmetric (slice_cmp-IsAntisymmetric nat_cmp-IsAntisymmetric)

pub loop-token-init : goal.loop-token-init
loop-token-init c =
    let flat = c.args.flat.now in
    let copy = c.new-copy.result in
    subst (λ (l : List TokenAt). Filled order apart (λ q. finite.get copy q ≡ finite.get flat q) l) (sym c.as_slice-token-items.ensures.entries)
    (filled_start order apart flat (λ q. finite.get copy q ≡ finite.get flat q)
    (λ q none. ap (λ (m : Flat). finite.get m q) c.new-copy.ensures ∙ (finite.get-empty names_cmp q ∙ sym none)))

pub loop-token-preserved : goal.loop-token-preserved
loop-token-preserved c =
    let flat = c.args.flat.now in
    let items = c.as_slice-token-items.result.now in
    let i = c.loop-token.token-index in
    let token : TokenAt = c.token-item.result in
    let old = c.loop-token.copy in
    let new = c.put.new.self in
    let inside : In token (finite.entries flat) =
    subst (λ (l : List TokenAt). In token l) c.as_slice-token-items.ensures.entries (item_in items i token c.loop-token-test.true c.token-item.is) in
    let there : finite.get flat token.0 ≡ Some token.1 = entry_found order apart flat token.0 token.1 inside in
    filled_next order apart (λ q. finite.get old q ≡ finite.get flat q) (λ q. finite.get new q ≡ finite.get flat q) (drop i items) token.0 token.1 (drop (i + 1) items)
    (entries_next items i token c.loop-token-test.true c.token-item.is) c.loop-token.invariant
    (put_here order apart old new token.0 c.in_ok-copy_entry.field-0 c.in_ok-put.ensures.at ∙ (ap Some c.in_ok-copy_entry.ensures ∙ sym there))
    (λ q other same. put_other order apart old new token.0 c.in_ok-copy_entry.field-0 q c.in_ok-put.ensures.at other ∙ same)

pub returns : goal.returns
returns c =
    let flat = c.args.flat.now in
    let items = c.as_slice-token-items.result.now in
    let i = c.loop-token.token-index in
    finite.same_map order apart c.loop-token.copy flat
    (filled_end order apart (λ q. finite.get c.loop-token.copy q ≡ finite.get flat q) (drop i items) (drop_all i items c.loop-token-test.false) c.loop-token.invariant)
