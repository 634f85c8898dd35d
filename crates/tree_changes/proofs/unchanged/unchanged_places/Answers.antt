use Rattle.std.proofs.Common.{◌≡◌, ℕ, List, [], Option, Less, get_or, subst, sym, arith, ◌∙◌}
use Rattle.std.specs.List.{AllZip}
use Rattle.tk_io.specs.Order.{names_cmp}
use Rattle.tree_changes.specs.Standing.{StandsAt}
use Rattle.std.proofs.lemmas.List.{take_all}
use Rattle.std.specs.FinMap as finite
use Rattle.group_inherit.specs.Flattening.{TokenAt}
use Rattle.tree_changes.proofs.Standing.{all_behind, still_behind, stands_there, one_more}
use Rattle.tree_changes.proofs.unchanged.unchanged_places.Goals as goal

pub loop-token-init : goal.loop-token-init
loop-token-init c =
    (subst (λ (ps : List (Option ℕ)). AllZip (StandsAt c.args.old.now c.args.new.now) [] ps) (sym c.in_ok-places.ensures.items) tt, all_behind c.as_slice-tokens.result.now (finite.entries c.args.old.now))

pub same_place-requires : goal.same_place-requires
same_place-requires c =
    let olds = finite.entries c.args.old.now in
    let behind = c.loop-token.invariant.1 c.loop-token.token-index c.token-item.result (omega arith) c.loop-token-test.true in
    record {
      passed = λ k d low high.
          subst (λ (t : TokenAt). names_cmp (get_or olds k d).0 t.0 ≡ Less) (sym c.token-item.is) (behind k d low high);
    }

pub loop-token-preserved : goal.loop-token-preserved
loop-token-preserved c =
    let tokens = c.as_slice-tokens.result.now in
    let i = c.loop-token.token-index in
    let token = c.token-item.result in (
      one_more c.differ_decides.ensures c.args.old.now c.args.new.now tokens i token c.loop-token.places.items c.push.new.self.items c.same_place.result
          c.loop-token.invariant.0 c.loop-token-test.true c.token-item.is
          (stands_there c.args.new.now tokens i token c.as_slice-tokens.ensures.entries c.loop-token-test.true c.token-item.is)
          c.same_place.ensures.found c.in_ok-push.ensures.items,
      still_behind tokens (finite.entries c.args.old.now) i c.same_place.new.at token c.as_slice-tokens.ensures.ascending c.loop-token-test.true c.token-item.is
          c.same_place.ensures.passed,
    )

pub returns : goal.returns
returns c =
    let tokens = c.as_slice-tokens.result.now in
    let R : TokenAt → Option ℕ → Type 0 = StandsAt c.args.old.now c.args.new.now in
    subst (λ (ts : List TokenAt). AllZip R ts c.loop-token.places.items)
    (take_all c.loop-token.token-index tokens c.loop-token-test.false ∙ c.as_slice-tokens.ensures.entries) c.loop-token.invariant.0
