use Rattle.std.proofs.Common.{arith}
use Rattle.alias_ref.proofs.AliasChains.{branch_next}
use Rattle.alias_ref.proofs.chain.branch_of.Goals as goal

pub loop-i-preserved : goal.loop-i-preserved
loop-i-preserved c =
    let within = c.in-Some.ensures.lookup.3.0 in
    let i = c.in-Some.i.now in (
      branch_next c.args.tokens.now c.args.chain.now c.loop-i.at i c.loop-i.branch.items c.push.new.self.items c.in_ok-place.place
          c.loop-i.invariant.0 within (c.in-Some.ensures.lookup.3.1 i) c.in_ok-place.ensures c.in_ok-push.ensures.items,
      omega (arith, within),
    )
