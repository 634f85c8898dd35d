use Rattle.std.proofs.lemmas.Result.{err_from_is_err_and}
use Rattle.alias_ref.proofs.AliasChains.{leads_told}
use Rattle.alias_ref.proofs.chain.follow_aliases.Goals as goal

pub returns-in_err-next-clause-told : goal.returns-in_err-next-clause-told
returns-in_err-next-clause-told c =
    let inv = c.loop-chain.invariant in
    let p = err_from_is_err_and c.from_residual.result c.from_residual.ensures.1 in
    rw (p.1, p.2) (λ token stands. leads_told c.args.flat.now token c.loop-chain.chain.items c.loop-chain.at c.in_err-next.field-0.0 c.in_err-next.ensures.told (inv.2 token stands))
