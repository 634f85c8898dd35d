-- The tokens of a flat tree are what their sources show, one after another.
use Rattle.std.proofs.Common.{◌≡◌, ◌⊎◌, inl, inr, ℕ, ◌+◌, ◌<◌, ◌≤◌, List, length, get_or, sym, ap, subst, ◌∙◌, arith}
use Rattle.std.proofs.lemmas.Bool.{cases_lt}
use Rattle.std.proofs.lemmas.Cmp.{lists_total}
use Rattle.std.specs.Cmp.Lexicographic.{nat_list_cmp_total}
use Rattle.std.specs.FinMap as finite
use Rattle.std.specs.FinMap.{nat_cmp-IsAntisymmetric, slice_cmp-IsAntisymmetric}
use Rattle.std.specs.List.{AllWithin}
use Rattle.ring.proofs.ListWords.{in_has_place}
use Rattle.token_tree.specs.Promise.{IsDefinition}
use Rattle.group_inherit.specs.Flattening.{TokenAt}
use Rattle.alias_ref.specs.Laws.{Flat}
use Rattle.alias_ref.specs.Unchanged.{AreDefinitions}
use Rattle.tree_changes.proofs.MapEntries.{entry_there}
use Rattle.tree_changes.proofs.Standing.{same_at}

abbrev pub AreShown : List TokenAt → ℕ → Type 0
AreShown tokens n = AllWithin (λ (t : TokenAt). IsDefinition t.1.def) tokens 0 n

pub none_shown : (tokens : List TokenAt) → AreShown tokens 0
none_shown tokens k d low below = absurd (omega (arith, below))

pub one_shown : (tokens : List TokenAt) (i : ℕ) (token : TokenAt) → i < length tokens → token ≡ get_or tokens i token → IsDefinition token.1.def
    → AreShown tokens i → AreShown tokens (i + 1)
one_shown tokens i token within is shown so_far k d low below = go (cases_lt k i)
  where
    go : (k < i) ⊎ (i ≤ k) → IsDefinition (get_or tokens k d).1.def
    go (inl h) = so_far k d low h
    go (inr h) =
        let e : k ≡ i = omega (arith, below, h) in
        subst (λ (t : TokenAt). IsDefinition t.1.def) (is ∙ (same_at tokens i token d within ∙ ap (λ (n : ℕ). get_or tokens n d) (sym e))) shown

pub all_shown : (flat : Flat) (tokens : List TokenAt) (n : ℕ) → tokens ≡ finite.entries flat → length tokens ≤ n → AreShown tokens n → AreDefinitions flat
all_shown flat tokens n are long shown path f there =
    let place =
    in_has_place (path, f) (finite.entries flat)
    (entry_there (lists_total nat_list_cmp_total) (slice_cmp-IsAntisymmetric (slice_cmp-IsAntisymmetric nat_cmp-IsAntisymmetric)) flat path f there) in
    let here = shown place.0 (path, f) (omega arith) (omega (arith, place.1, long, ap (λ (ts : List TokenAt). length ts) are)) in
    subst (λ (t : TokenAt). IsDefinition t.1.def) (ap (λ (ts : List TokenAt). get_or ts place.0 (path, f)) are ∙ place.2) here
