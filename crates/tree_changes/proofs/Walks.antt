-- Walks of references from their beginning: a path is reached exactly where it is changed or refers to one that is reached.
use Rattle.std.proofs.Common.{◌≡◌, ◌⊎◌, inl, inr, true, false, List, Some, refl, sym, ap, ◌∙◌}
use Rattle.std.specs.FinMap as finite
use Rattle.ring.specs.Lists.{In}
use Rattle.group_inherit.specs.Flattening.{Flattened}
use Rattle.alias_ref.specs.Laws.{Flat}
use Rattle.alias_ref.specs.Refs.{refs_of}
use Rattle.alias_ref.specs.Unchanged.{raw_in, DifferDecides, Reaches, at_start, by_reference}
use Rattle.alias_ref.specs.Written.{Step}
use Rattle.tree_changes.specs.Laws.{RefersToReached, ReachedByOne, NoneReached}
use Rattle.tree_changes.specs.Reached.{is_changed, IsReached}

module _ (old new : Flat) where
  -- one reference more at the beginning
  pub begun : (path next end : List Step) (f : Flattened) → finite.get new path ≡ Some f → In next (refs_of f.def)
      → Reaches new next end → Reaches new path end
  begun path next end f there refers at_start = by_reference next at_start there refers
  begun path next end f there refers (by_reference last walk at i) =
      by_reference last (begun path next _ f there refers walk) at i

  -- a walk is of no reference, or has a first one
  First : List Step → List Step → Type 0
  First path end = (f : Flattened) × (next : List Step) × (finite.get new path ≡ Some f) × In next (refs_of f.def) × Reaches new next end

  first : (path end : List Step) → Reaches new path end → (path ≡ end) ⊎ First path end
  unfolding First
  first path end at_start = inl refl
  first path end (by_reference {path = middle} {f = g} last walk at i) = go (first path middle walk)
    where
      go : (path ≡ middle) ⊎ First path middle → (path ≡ end) ⊎ First path end
      go (inl e) = inr (g, end, ap (finite.get new) e ∙ at, i, at_start)
      go (inr (f, next, there, refers, rest)) = inr (f, next, there, refers, by_reference last rest at i)

  reached_by : (path : List Step) → IsReached old new path → (is_changed old new path ≡ true) ⊎ RefersToReached old new path
  unfolding First
  reached_by path r = go (first path r.end r.walk)
    where
      go : (path ≡ r.end) ⊎ First path r.end → (is_changed old new path ≡ true) ⊎ RefersToReached old new path
      go (inl e) = inl (ap (is_changed old new) e ∙ r.changed)
      go (inr (f, next, there, refers, rest)) = inr (record {
        token = f;
        there = there;
        next = next;
        refers = refers;
        reached = record { end = r.end; walk = rest; changed = r.changed };
      })

  by_reached : (path : List Step) → (is_changed old new path ≡ true) ⊎ RefersToReached old new path → IsReached old new path
  by_reached path (inl e) = record { end = path; walk = at_start; changed = e }
  by_reached path (inr r) = record {
    end = r.reached.end;
    walk = begun path r.next r.reached.end r.token r.there r.refers r.reached.walk;
    changed = r.reached.changed;
  }

pub reached_by_one : ReachedByOne
reached_by_one old new path = (reached_by old new path, by_reached old new path)

pub none_reached : DifferDecides → NoneReached
none_reached decides flat path r = go (sym ((decides (raw_in flat r.end) (raw_in flat r.end)).1 refl))
  where
    go : false ≡ is_changed flat flat r.end → ⊥
    go e = let f : false ≡ true = e ∙ r.changed in cc
