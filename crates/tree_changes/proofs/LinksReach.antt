-- Against the links of a flat tree a change spreads to the tokens that are reached, and to no others.
use Rattle.std.proofs.Common.{◌≡◌, ◌⊎◌, ◌↔◌, inl, inr, ℕ, zero, suc, Bool, true, false, List, [], ◌∷◌, length, Some, None, Contains, sym, subst, ◌∙◌}
use Rattle.std.proofs.lemmas.Cmp.{lists_total}
use Rattle.std.proofs.lemmas.Option.{slice_get_within}
use Rattle.std.specs.Cmp.Lexicographic.{nat_list_cmp_total}
use Rattle.std.specs.FinMap as finite
use Rattle.std.specs.FinMap.{nat_cmp-IsAntisymmetric, slice_cmp-IsAntisymmetric}
use Rattle.std.specs.List.{slice_get}
use Rattle.ring.specs.Lists.{In}
use Rattle.ring.proofs.ListWords.{in_has_place, has_place_in}
use Rattle.ref_graph.specs.Walk.{targets_of, Walk, stays, goes, WalksTo}
use Rattle.group_inherit.specs.Flattening.{Flattened, TokenAt}
use Rattle.alias_ref.specs.Laws.{Flat}
use Rattle.alias_ref.specs.Refs.{refs_of}
use Rattle.alias_ref.specs.Unchanged.{Reaches, at_start, by_reference}
use Rattle.alias_ref.specs.Written.{Step}
use Rattle.tree_changes.specs.Reached.{IsReached}
use Rattle.tree_changes.specs.inner.Links.{IsThere, IsCalm, IsListed, BeginsAt, IsLinked, AreLinked}
use Rattle.tree_changes.proofs.MapEntries.{entry_found}
use Rattle.tree_changes.proofs.Walks.{begun}

some_none : {X : Type 0} {x : X} → None ≡ Some x → ⊥
some_none e = cc

pub some_is : {X : Type 0} {x y : X} → Some x ≡ Some y → x ≡ y
some_is e = cc

both_ways : {b : Bool} → b ≡ false → b ≡ true → ⊥
both_ways e f = cc

-- what stands at a place of a list is one of it
pub got_in : {X : Type 0} (xs : List X) (i : ℕ) (x : X) → slice_get xs i ≡ Some x → In x xs
got_in [] i x e = absurd (some_none e)
got_in (y ∷ xs) zero x e = inl (sym (some_is e))
got_in (y ∷ xs) (suc i) x e = inr (got_in xs i x e)

-- .. and its token has its path in the tree
pub there_found : (flat : Flat) (path : List Step) (f : Flattened) (i : ℕ) → slice_get (finite.entries flat) i ≡ Some (path, f)
    → finite.get flat path ≡ Some f
there_found flat path f i at =
    entry_found (lists_total nat_list_cmp_total) (slice_cmp-IsAntisymmetric (slice_cmp-IsAntisymmetric nat_cmp-IsAntisymmetric)) flat path f
    (got_in (finite.entries flat) i (path, f) at)

-- one edge more at the end of a walk
further : (edges : List (List ℕ)) (v u w : ℕ) → Walk edges v u → Contains (targets_of edges u) w → Walk edges v w
further edges v u w stays c = goes c stays
further edges v u w (goes d rest) c = goes d (further edges _ u w rest c)

module _ (old new : Flat) (edges : List (List ℕ)) (begins : List ℕ) (are : AreLinked old new (length (finite.entries new)) edges begins) where
  abbrev tokens : List TokenAt
  tokens = finite.entries new

  -- the token at the end of a walk is reached, and so is that at its beginning
  against : (v u : ℕ) (token : TokenAt) → Walk edges v u → BeginsAt old new u → slice_get tokens v ≡ Some token → IsReached old new token.0
  against v u token stays b at =
      let same : (b.path, b.there.0) ≡ token = some_is (sym b.there.1 ∙ at) in
      subst (λ (t : TokenAt). IsReached old new t.0) same b.reached
  against v u token (goes {w = w} c rest) b at =
      let n = are.named v token at w (has_place_in w (targets_of edges v) c) in
      let next = against w u (n.name, n.there.0) rest b n.there.1 in
      record {
        end = next.end;
        walk = begun old new token.0 n.name next.end token.1 (there_found new token.0 token.1 v at) n.among next.walk;
        changed = next.changed;
      }

  -- A walk of references from a token: a change begins on its way, or a walk of edges goes along with it, or it passes a
  -- path from which no change is reached.
  abbrev ComesAlong : ℕ → List Step → Type 0
  ComesAlong v end = (u : ℕ) × IsThere new end u × Walk edges v u

  abbrev Passes : List Step → Type 0
  Passes end = (path : List Step) × IsCalm old new path × Reaches new path end

  abbrev Leads : ℕ → List Step → Type 0
  Leads v end = WalksTo edges begins v ⊎ (ComesAlong v end ⊎ Passes end)

  one_further : (v u : ℕ) (middle end : List Step) (g : Flattened) → slice_get tokens u ≡ Some (middle, g) → Walk edges v u
      → In end (refs_of g.def) → Leads v end
  one_further v u middle end g at so_far i = go (are.all u (middle, g) (slice_get_within tokens u (middle, g) at) at)
    where
      next : IsListed new (targets_of edges u) end ⊎ IsCalm old new end → Leads v end
      next (inl n) = inr (inl (n.place, n.there, further edges v u n.place so_far (in_has_place n.place (targets_of edges u) n.among)))
      next (inr calm) = inr (inr (end, calm, at_start))

      go : In u begins ⊎ IsLinked old new edges u (middle, g) → Leads v end
      go (inl b) = inl (u, in_has_place u begins b, so_far)
      go (inr l) = next (l.all end i)

  leads : (v : ℕ) (token : TokenAt) (end : List Step) → slice_get tokens v ≡ Some token → Reaches new token.0 end → Leads v end
  leads v token end at at_start = inr (inl (v, (token.1, at), stays))
  leads v token end at (by_reference {path = middle} {f = f} last walk there i) = go (leads v token middle at walk)
    where
      same : (g : Flattened) (u : ℕ) → slice_get tokens u ≡ Some (middle, g) → f ≡ g
      same g u is = some_is (sym there ∙ there_found new middle g u is)

      go : Leads v middle → Leads v end
      go (inl done) = inl done
      go (inr (inl (u, is, so_far))) =
          one_further v u middle end is.0 is.1 so_far (subst (λ (h : Flattened). In end (refs_of h.def)) (same is.0 u is.1) i)
      go (inr (inr (path, calm, rest))) = inr (inr (path, calm, by_reference end rest there i))

  back : (v : ℕ) (token : TokenAt) → slice_get tokens v ≡ Some token → IsReached old new token.0 → WalksTo edges begins v
  back v token at r = go (leads v token r.end at r.walk)
    where
      last : (u : ℕ) (is : IsThere new r.end u) → Walk edges v u → In u begins ⊎ IsLinked old new edges u (r.end, is.0) → WalksTo edges begins v
      last u is walk (inl b) = (u, in_has_place u begins b, walk)
      last u is walk (inr l) = absurd (both_ways l.same r.changed)

      go : Leads v r.end → WalksTo edges begins v
      go (inl done) = done
      go (inr (inl (u, is, walk))) = last u is walk (are.all u (r.end, is.0) (slice_get_within tokens u (r.end, is.0) is.1) is.1)
      go (inr (inr (path, calm, rest))) = absurd (calm (record { end = r.end; walk = rest; changed = r.changed }))

  there : (v : ℕ) (token : TokenAt) → slice_get tokens v ≡ Some token → WalksTo edges begins v → IsReached old new token.0
  there v token at (u, c, walk) = against v u token walk (are.begun u (has_place_in u begins c)) at

  pub linked_reach : (v : ℕ) (token : TokenAt) → slice_get tokens v ≡ Some token → WalksTo edges begins v ↔ IsReached old new token.0
  linked_reach v token at = (there v token at, back v token at)
