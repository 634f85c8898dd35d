-- A set comes to what its sources come to.
use Rattle.std.proofs.Common.{◌≡◌, ◌<◌, ◌≤◌, ℕ, zero, suc, true, List, [], ◌∷◌, ◌++◌, length, refl, sym, ap, ap₂, ◌∙◌, subst, inl, inr, arith}
use Rattle.std.specs.List.{flat_map}
use Rattle.ring.specs.Lists.{In}
use Rattle.ring.specs.Routes.{IsChain}
use Rattle.resolver_doc.specs.Document.{SourceData, file_source, set_source, inline_source, SetData}
use Rattle.resolver_doc.specs.Rings.{sets_in, set_needs, are_sets_right, HasNoRingOfSets}
use Rattle.permutations.specs.Permutation.{TokenSource, file, inline, replaced, sources_written, set_within, set_sources, sources_from}
use Rattle.permutations.proofs.SetNeeds.{named_in, needs_of_set, needs_of_document, named_are_sets}
use Rattle.permutations.proofs.SetRoutes.{short_way}

-- each way from the set through what sources name has fewer sets
abbrev IsDeep : List SetData → ℕ → ℕ → Type 0
IsDeep sets k v = (way : List ℕ) → IsChain (named_in sets) v way → length way < k

-- sources come to the same where the sets that they name do
pub same_replaced : (f g : ℕ → List TokenSource) (sources : List SourceData) → ((w : ℕ) → In w (sets_in sources) → f w ≡ g w) → flat_map (replaced f) sources ≡ flat_map (replaced g) sources
same_replaced f g [] same = refl
same_replaced f g (file_source name start end ∷ ss) same = ap (λ xs. file name start end ∷ xs) (same_replaced f g ss same)
same_replaced f g (set_source name v ∷ ss) same = ap₂ (λ xs ys. xs ++ ys) (same v (inl refl)) (same_replaced f g ss (λ w i. same w (inr i)))
same_replaced f g (inline_source n ∷ ss) same = ap (λ xs. inline n ∷ xs) (same_replaced f g ss same)

settled : (sets : List SetData) (k m v : ℕ) → IsDeep sets k v → k ≤ m → set_within sets k v ≡ set_within sets m v
unfolding set_within
settled sets zero m v deep h = let none : 0 < 0 = deep [] tt in absurd (omega arith)
settled sets (suc k) zero v deep h = absurd (omega arith)
settled sets (suc k) (suc m) v deep h =
    same_replaced (set_within sets k) (set_within sets m) (sources_written sets v)
    (λ w i. settled sets k m w (λ way leads. (let longer : suc (length way) < suc k = deep (w ∷ way) (i, leads) in omega arith)) (omega arith))

-- a way through what sources name is a way of the graph
leads_on : (sets : List SetData) → are_sets_right sets sets ≡ true → (v : ℕ) (way : List ℕ) → v < length sets → IsChain (named_in sets) v way → IsChain (set_needs sets) v way
leads_on sets right v [] h leads = tt
leads_on sets right v (w ∷ way) h leads =
    (subst (λ ws. In w ws) (sym (needs_of_set sets v h)) leads.0, leads_on sets right w way (named_are_sets sets right v w leads.0) leads.1)

below : (sets : List SetData) → are_sets_right sets sets ≡ true → (v : ℕ) (way : List ℕ) → v < length sets → IsChain (named_in sets) v way → (w : ℕ) → In w (v ∷ way) → w < length sets
below sets right v way h leads w (inl e) = subst (λ (x : ℕ). x < length sets) (sym e) h
below sets right v [] h leads w (inr i) = absurd i
below sets right v (u ∷ way) h leads w (inr i) = below sets right u way (named_are_sets sets right v u leads.0) leads.1 w i

deep_enough : (sets : List SetData) → are_sets_right sets sets ≡ true → HasNoRingOfSets sets → (v : ℕ) → v < length sets → IsDeep sets (length sets) v
deep_enough sets right none v h way leads =
    let short = short_way (set_needs sets) (length sets) (length sets) none (v ∷ way) (needs_of_document sets v h, leads_on sets right v way h leads) (below sets right v way h leads) in
    omega arith

one_more : (sets : List SetData) (k v : ℕ) → set_within sets (suc k) v ≡ flat_map (replaced (set_within sets k)) (sources_written sets v)
unfolding set_within
one_more sets k v = refl

pub set_comes_to : (sets : List SetData) → are_sets_right sets sets ≡ true → HasNoRingOfSets sets → (v : ℕ) → v < length sets → set_sources sets v ≡ sources_from sets (sources_written sets v)
set_comes_to sets right none v h = settled sets (length sets) (suc (length sets)) v (deep_enough sets right none v h) (omega arith) ∙ one_more sets (length sets) v
