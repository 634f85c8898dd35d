use Rattle.std.proofs.Common.{◌≡◌, [], subst, sym}
use Rattle.theme_css.specs.Blocks.{block_after, blocks_after}
use Rattle.theme_css.specs.inner.Offers.{AreAllRanked, AreRanked}
use Rattle.theme_css.specs.inner.Pages.{theme_view, themes_view}
use Rattle.theme_css.specs.inner.Views.{block_view, blocks_view}
use Rattle.theme_css.proofs.Needing.{all-push, all_built, next_built}
use Rattle.theme_css.proofs.blocks.blocks_of.Goals as goal

pub loop-theme-preserved : goal.loop-theme-preserved
loop-theme-preserved c =
    let (known, built) = c.loop-theme.invariant in
    let ts = c.args.themes.now in
    let i = c.loop-theme.theme-index in
    let old = c.loop-theme.blocks.items in
    let new = c.push.new.self.items in
    let b = c.in_ok-block.block in
    let count = c.args.count in (
      subst (AreAllRanked count) (sym c.in_ok-push.ensures.items) (all-push (λ x. AreRanked count x.declared.items) old b known c.in_ok-block.ensures.known),
      λ names apart len. next_built names ts i c.theme-item.result old new b (blocks_after names [] (themes_view names ts)) c.loop-theme-test.true c.theme-item.is c.in_ok-push.ensures.items
          (subst (λ bs. block_view names b ≡ block_after names (blocks_view names bs) (theme_view names c.theme-item.result)) c.as_slice.ensures.value (c.in_ok-block.ensures.view names apart len)) (built names apart len),
    )

pub returns-clause-view : goal.returns-clause-view
returns-clause-view c names apart len =
    all_built names c.args.themes.now c.loop-theme.theme-index c.loop-theme.blocks.items (blocks_after names [] (themes_view names c.args.themes.now)) c.loop-theme-test.false (c.loop-theme.invariant.1 names apart len)
