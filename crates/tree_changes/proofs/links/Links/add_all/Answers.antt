use Rattle.std.proofs.Common.{◌≡◌, ℕ, List, Some, length, sym, ap, subst, ◌∙◌, arith}
use Rattle.std.proofs.lemmas.Option.{slice_get-get_or}
use Rattle.std.specs.FinMap as finite
use Rattle.std.specs.List.{slice_get}
use Rattle.group_inherit.specs.Flattening.{TokenAt}
use Rattle.tree_changes.specs.Standing.{StandsAt}
use Rattle.tree_changes.specs.inner.Links.{AreLinks}
use Rattle.tree_changes.proofs.Forgotten.{places_long}
use Rattle.tree_changes.proofs.links.Links.add_all.Goals as goal

pub loop-i-init : goal.loop-i-init
loop-i-init c = c.requires.none

pub add-requires : goal.add-requires
add-requires c =
    let i = c.loop-i.i in
    let side = c.args.side.now in
    let token : TokenAt = c.index-tokens-i.result in
    let tokens : List TokenAt = c.as_slice-tokens.result.now in
    let there : slice_get tokens i ≡ Some token = slice_get-get_or tokens i token c.loop-i-test.true ∙ ap Some (sym c.index-tokens-i.is) in
    record {
      beside = c.requires.beside;
      settled = c.requires.settled;
      token = subst (λ (ts : List TokenAt). slice_get ts i ≡ Some token) c.as_slice-tokens.ensures.entries there;
      place = omega (arith, c.loop-i-test.true, ap (λ (ts : List TokenAt). length ts) c.as_slice-tokens.ensures.entries, places_long side.places.now (finite.entries side.new.now) (StandsAt side.old.now side.new.now) c.requires.beside.places);
      links = c.loop-i.invariant;
    }

pub loop-i-preserved : goal.loop-i-preserved
loop-i-preserved c = c.in_ok-add.ensures

pub returns : goal.returns
returns c =
    let many = ap (λ (ts : List TokenAt). length ts) c.as_slice-tokens.ensures.entries in
    subst (λ (n : ℕ). AreLinks c.args.side.now.old.now c.args.side.now.new.now n c.loop-i.self) (omega (arith, c.loop-i-test.false, many)) c.loop-i.invariant
