use Rattle.std.proofs.Common.{rules, ◌≡◌, true, sym, subst}
use Rattle.std.specs.FinMap as map
use Rattle.alias_ref.specs.inner.Chains.{HasToken, IsChain, IsNewBehind}
use Rattle.alias_ref.proofs.AliasChains.{stepped_if}
use Rattle.alias_ref.proofs.chain.step.Goals as goal

pub check-requires : goal.check-requires
check-requires c =
    let es = map.entries c.args.flat.now in
    let marks = c.args.aliases.now.marks.items in
    let entries : c.as_slice-tokens.result.now ≡ es = c.as_slice-tokens.ensures.entries in
    let front : c.as_slice-front.result.now ≡ c.args.chain.now.items = c.as_slice-front.ensures.value in
    record {
      ascending = c.as_slice-tokens.ensures.ascending;
      chain = subst (λ ts. IsChain ts marks c.as_slice-front.result.now) (sym entries) (subst (IsChain es marks) (sym front) c.requires.chain);
      token = subst (λ ts. HasToken ts c.args.i) (sym entries) c.requires.token;
    }

pub returns-in_ok-next-in-Ok-clause-next : goal.returns-in_ok-next-in-Ok-clause-next
returns-in_ok-next-in-Ok-clause-next c =
    let flat = c.args.flat.now in
    let es = map.entries flat in
    let i = c.args.i in
    let marks = c.args.aliases.now.marks.items in
    let chain = c.args.chain.now.items in
    let entries : c.as_slice-tokens.result.now ≡ es = c.as_slice-tokens.ensures.entries in
    let front : c.as_slice-front.result.now ≡ chain = c.as_slice-front.ensures.value in
    let yes : c.in-Ok.new ≡ true = search rules in
    let new : IsNewBehind es marks chain i = subst (λ b. IsNewBehind es marks b i) front (subst (λ ts. IsNewBehind ts marks c.as_slice-front.result.now i) entries (c.in-Ok.ensures.new yes)) in
    let e = c.in_ok-next-in-Ok.ensures in
    stepped_if flat c.args.aliases.now.targets.items marks c.advance.new.aliases.marks.items chain c.advance.new.chain.items i c.in_ok-next-in-Ok.next
    c.requires.aliases c.requires.chain c.requires.token new e.leads e.marked e.chain
