-- What stands at the path of an entry of a flat tree.
use Rattle.std.proofs.Common.{◌≡◌, ℕ, ◌<◌, T, length, get_or, map-id, Some, sym, ap, subst, ◌∙◌}
use Rattle.std.proofs.lemmas.Cmp.{tied_itself, lists_total}
use Rattle.std.specs.Cmp.Lexicographic.{nat_list_cmp_total}
use Rattle.std.proofs.lemmas.Option.{slice_get_within, get_or_from_slice_get}
use Rattle.std.specs.List.{slice_get}
use Rattle.std.specs.FinMap as finite
use Rattle.std.specs.FinMap.{is_sorted, find}
use Rattle.tk_io.specs.Order.{names_cmp}
use Rattle.tk_io.proofs.SortedEntries.{found_at}
use Rattle.group_inherit.specs.Flattening.{TokenAt}
use Rattle.alias_ref.specs.Laws.{Flat}

-- a token of the flat tree stands at its path
pub stands_there : (flat : Flat) (i : ℕ) (token : TokenAt) → i < length (finite.entries flat) → token ≡ get_or (finite.entries flat) i token → finite.get flat token.0 ≡ Some token.1
stands_there flat i token within is =
    let o = lists_total nat_list_cmp_total in
    let es = finite.entries flat in
    let rises = subst (λ l. T (is_sorted names_cmp l)) (sym (map-id es)) (finite.entries_sorted flat) in
    let there = found_at o (λ (e : TokenAt). e.0) (λ (e : TokenAt). e.1) token.0 es i token rises within (ap (λ e. names_cmp e.0 token.0) (sym is) ∙ tied_itself o token.0) in
    finite.get-entries flat token.0 ∙ (subst (λ l. find names_cmp token.0 l ≡ Some (get_or es i token).1) (map-id es) there ∙ ap (λ (e : TokenAt). Some e.1) (sym is))

pub entry_there : (flat : Flat) (i : ℕ) (token : TokenAt) → slice_get (finite.entries flat) i ≡ Some token → finite.get flat token.0 ≡ Some token.1
entry_there flat i token e =
    stands_there flat i token (slice_get_within (finite.entries flat) i token e) (sym (get_or_from_slice_get (finite.entries flat) i token token e))
