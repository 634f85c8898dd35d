-- A token that is not reached comes to the same in both trees.
use Rattle.std.proofs.Common.{◌≡◌, inl, inr, Bool, true, false, List, [], ◌∷◌, Option, Some, None, option_map, refl, sym, ap, subst, ◌∙◌}
use Rattle.std.specs.FinMap as finite
use Rattle.std.specs.List.{AllZip}
use Rattle.ring.specs.Lists.{In}
use Rattle.group_inherit.specs.Flattening.{Flattened, TokenAt}
use Rattle.alias_ref.specs.Laws.{Flat, RefsOfSource}
use Rattle.alias_ref.specs.Unchanged.{raw_of, raw_in, DifferDecides, Reaches, at_start, by_reference, Unchanged, AreDefinedAlong}
use Rattle.transforms.specs.Config.{Settings}
use Rattle.token_cells.specs.Cell.{TokenPath, IsCell, AreCells}
use Rattle.token_cells.specs.Laws.{UnchangedCells, UnreachedIsAlike, IsTakenOrFound, TakenAreCells}
use Rattle.token_cells.specs.TokenCell.{TokenCell}
use Rattle.tree_changes.specs.Reached.{is_changed, IsReached}

some_is : {X : Type 0} {x y : X} → Some x ≡ Some y → x ≡ y
some_is e = cc

module _ (decides : DifferDecides) (refs : RefsOfSource) (cells : UnchangedCells) where
  module _ (old new : Flat) (path : TokenPath) (unreached : IsReached old new path → ⊥) where
    -- each path to which the references lead has the same raw entry in both trees
    pub unchanged : Unchanged old new path
    unchanged end walk = go (is_changed old new end) refl
      where
        go : (b : Bool) → is_changed old new end ≡ b → raw_in old end ≡ raw_in new end
        go true e = absurd (unreached (record { end = end; walk = walk; changed = e }))
        go false e = (decides (raw_in old end) (raw_in new end)).0 e

    module _ (of_old : AreDefinedAlong old new path) (of_new : AreDefinedAlong new new path) where
      -- .. so that the references of the old tree lead no further than those of the new one
      still_there : (q : TokenPath) (f : Flattened) → finite.get old q ≡ Some f → raw_in old q ≡ raw_in new q
          → (g : Flattened) × (finite.get new q ≡ Some g) × (raw_of f ≡ raw_of g)
      still_there q f e same = go (finite.get new q) refl (sym (ap (option_map raw_of) e) ∙ same)
        where
          go : (o : Option Flattened) → finite.get new q ≡ o → Some (raw_of f) ≡ option_map raw_of o
              → (g : Flattened) × (finite.get new q ≡ Some g) × (raw_of f ≡ raw_of g)
          go None k i = absurd (cc)
          go (Some g) k i = (g, k, some_is i)

      walked : (q : TokenPath) → Reaches old path q → Reaches new path q
      walked q at_start = at_start
      walked q (by_reference {path = p} {f = f} next walk at i) =
          let here = walked p walk in
          let (g, at_new, same) = still_there p f at (unchanged p here) in
          let all_same = refs f.def g.def (of_old p f here at) (of_new p g here at_new) (ap (λ r. r.source) same) in
          by_reference q here at_new (subst (In q) all_same i)

      back : (settings : Settings) (cell : TokenCell) → IsCell new settings path cell → IsCell old settings path cell
      back settings cell is =
          cells new old settings path cell (λ p f walk at. of_new p f (walked p walk) at) (λ p f walk at. of_old p f (walked p walk) at)
          (λ p walk. sym (unchanged p (walked p walk))) is

  pub unreached_is_alike : UnreachedIsAlike
  unreached_is_alike old new settings path cell of_old of_new unreached = (
    cells old new settings path cell of_old of_new (unchanged old new path unreached),
    back old new path unreached of_old of_new settings cell,
  )

  pub taken_are_cells : TakenAreCells
  taken_are_cells old new settings found of_old of_new all = each (finite.entries new) found all
    where
      one : (token : TokenAt) (cell : TokenCell) → IsTakenOrFound old new settings token cell → IsCell new settings token.0 cell
      one token cell (inl is) = is
      one token cell (inr (unreached, is)) =
          cells old new settings token.0 cell (λ p f walk at. of_old p f at) (λ p f walk at. of_new p f at)
          (unchanged old new token.0 unreached) is

      each : (tokens : List TokenAt) (found : List TokenCell) → AllZip (IsTakenOrFound old new settings) tokens found → AreCells new settings tokens found
      each [] [] all = all
      each [] (c ∷ cs) all = absurd all
      each (t ∷ ts) [] all = absurd all
      each (t ∷ ts) (c ∷ cs) all = (one t c all.0, each ts cs all.1)
