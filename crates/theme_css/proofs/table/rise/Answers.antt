use Rattle.std.proofs.Common.{◌≡◌, ◌+◌, ◌-◌, true, subst, arith}
use Rattle.theme_css.proofs.Rising.{RisesFrom, at_end, one_before}
use Rattle.theme_css.proofs.table.rise.Goals as goal

pub loop-i-init : goal.loop-i-init
loop-i-init c = (omega arith, λ h. h)

pub loop-i-preserved : goal.loop-i-preserved
loop-i-preserved c =
    let (low, back) = c.loop-i.invariant in
    let items = c.args.names.now.items in
    let i = c.loop-i.i in
    let good : c.is_below.result ≡ true = cc in
    let same : (i + 1) - 1 ≡ i = omega arith in (
      omega arith,
      λ h. back (one_before (λ n. n.now) items i c.index.result.now c.index-in-loop-i.result.now low (omega arith) c.index.ensures c.index-in-loop-i.ensures (c.is_below.ensures good) (subst (RisesFrom (λ n. n.now) items) same h)),
    )

pub returns : goal.returns
returns c t = c.loop-i.invariant.1 (at_end (λ n. n.now) c.args.names.now.items c.loop-i.i (omega arith))
