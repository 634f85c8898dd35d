use Rattle.std.proofs.Common.{◌≡◌, ◌≤◌, false, length, arith, sym, ◌∙◌}
use Rattle.alias_ref.specs.Visits.{most_on_branch}
use Rattle.alias_ref.specs.inner.Chains.{is_marked}
use Rattle.alias_ref.proofs.AliasChains.{new_behind, deep_told}
use Rattle.alias_ref.proofs.chain.check.Goals as goal

pub returns-then-chain-lt-MOST_ON_BRANCH-clause-new : goal.returns-then-chain-lt-MOST_ON_BRANCH-clause-new
returns-then-chain-lt-MOST_ON_BRANCH-clause-new c = λ t.
    let marks = c.args.aliases.now.marks.items in
    let unmarked : is_marked marks c.args.chain.now c.args.i ≡ false = sym c.is_marked.ensures ∙ c.if-is_marked.false in
    record {
      unmarked = unmarked;
      is_new = new_behind c.args.tokens.now marks c.args.chain.now c.args.i c.requires.ascending c.requires.chain c.requires.token unmarked;
      room = omega (arith, c.if-chain-lt-MOST_ON_BRANCH.true);
    }

pub returns-clause-told : goal.returns-clause-told
returns-clause-told c =
    let marks = c.args.aliases.now.marks.items in
    let unmarked : is_marked marks c.args.chain.now c.args.i ≡ false = sym c.is_marked.ensures ∙ c.if-is_marked.false in
    let long : most_on_branch ≤ length c.args.chain.now = omega (arith, c.if-chain-lt-MOST_ON_BRANCH.false) in
    deep_told c.args.tokens.now c.args.chain.now c.args.i c.in_ok-place.place c.broken.result c.in_ok-place.ensures
    (new_behind c.args.tokens.now marks c.args.chain.now c.args.i c.requires.ascending c.requires.chain c.requires.token unmarked) long c.broken.ensures
