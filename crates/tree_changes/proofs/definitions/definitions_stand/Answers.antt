use Rattle.std.proofs.Common.{ap, subst, ◌∙◌}
use Rattle.token_tree.specs.Promise.{IsDefinition}
use Rattle.group_inherit.specs.Flattening.{TokenAt}
use Rattle.tree_changes.proofs.AllDefined.{none_shown, one_shown, all_shown}
use Rattle.tree_changes.proofs.definitions.definitions_stand.Goals as goal

pub loop-token-init : goal.loop-token-init
loop-token-init c = none_shown c.as_slice-token-items.result.now

pub loop-token-preserved : goal.loop-token-preserved
loop-token-preserved c =
    let token = c.token-item.result in
    one_shown c.as_slice-token-items.result.now c.loop-token.token-index token c.loop-token-test.true c.token-item.is
    (subst IsDefinition (c.deref.ensures ∙ ap (λ (t : TokenAt). t.1.def) c.token.view_is) c.keeps.ensures) c.loop-token.invariant

pub returns : goal.returns
returns c = all_shown c.args.flat.now c.as_slice-token-items.result.now c.loop-token.token-index c.as_slice-token-items.ensures.entries c.loop-token-test.false c.loop-token.invariant
