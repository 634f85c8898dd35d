use Rattle.std.proofs.Common.{◌∙◌, None, refl, subst, sym}
use Rattle.theme_css.specs.inner.Offers.{AreRanked}
use Rattle.theme_css.specs.inner.Views.{choices_view, offers_view}
use Rattle.theme_css.proofs.Offering.{all_blocks, first_block, next_block}
use Rattle.theme_css.proofs.offers.offers_on.Goals as goal

pub loop-block-init : goal.loop-block-init
loop-block-init c = (c.in_ok-offers.ensures.len, c.requires, λ names apart len. (λ n. None, c.in_ok-offers.ensures.none names len, λ n. refl))

pub put_block-requires : goal.put_block-requires
put_block-requires c =
    let b = c.loop-block.invariant in
    let first = first_block c.args.count c.args.blocks.now c.loop-block.block-index c.block-item.result c.loop-block-test.true c.block-item.is b.1 in
    subst (λ k. AreRanked k c.block-item.result.declared.items) (sym b.0) first.0

pub loop-block-preserved : goal.loop-block-preserved
loop-block-preserved c =
    let b = c.loop-block.invariant in
    let bs = c.args.blocks.now in
    let i = c.loop-block.block-index in
    let first = first_block c.args.count bs i c.block-item.result c.loop-block-test.true c.block-item.is b.1 in (
      c.put_block.ensures.len ∙ b.0,
      first.1,
      next_block (choices_view c.args.page.now) bs c.args.count (offers_view c.loop-block.offers.items) (offers_view c.put_block.new.offers.items) i c.block-item.result b.2 c.loop-block-test.true c.block-item.is c.put_block.ensures.put,
    )

pub returns-clause-offers : goal.returns-clause-offers
returns-clause-offers c =
    let b = c.loop-block.invariant in
    all_blocks (choices_view c.args.page.now) c.args.blocks.now c.args.count (offers_view c.loop-block.offers.items) c.loop-block.block-index b.2 c.loop-block-test.false
