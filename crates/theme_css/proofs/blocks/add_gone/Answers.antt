use Rattle.std.proofs.Common.{arith}
use Rattle.theme_css.specs.inner.Views.{declarations_at, offers_view}
use Rattle.theme_css.proofs.Ordering.{all_gone, gone_next}
use Rattle.theme_css.proofs.blocks.add_gone.Goals as goal

pub loop-rank-preserved : goal.loop-rank-preserved
loop-rank-preserved c =
    let (known, added) = c.loop-rank.invariant in
    let i = c.loop-rank.rank in (
      λ h. c.in_ok-add_if_gone.ensures.known (known h),
      λ names len f g before own.
          gone_next names (offers_view c.args.before.now.items) (offers_view c.args.own.now.items) f g i (declarations_at names c.args.declared.now.items) (declarations_at names c.loop-rank.declared.items)
          (declarations_at names c.add_if_gone.new.declared.items) (omega (arith, len)) before own (c.in_ok-add_if_gone.ensures.added names) (added names len f g before own),
    )

pub returns-clause-added : goal.returns-clause-added
returns-clause-added c names len f g before own =
    all_gone names f g c.loop-rank.rank (declarations_at names c.args.declared.now.items) (declarations_at names c.loop-rank.declared.items) (omega (arith, len)) (c.loop-rank.invariant.1 names len f g before own)
