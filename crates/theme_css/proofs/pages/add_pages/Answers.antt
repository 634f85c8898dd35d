use Rattle.theme_css.specs.inner.Pages.{pages_view}
use Rattle.theme_css.specs.inner.Views.{choices_view}
use Rattle.theme_css.proofs.Adding.{name_at, next_page}
use Rattle.theme_css.proofs.pages.add_pages.Goals as goal

pub add_page-requires : goal.add_page-requires
add_page-requires c = name_at c.args.names.now c.args.rows.now c.loop-i.i _ c.index-rows-i.result c.requires c.loop-i-test.true c.index-rows-i.is

pub loop-i-preserved : goal.loop-i-preserved
loop-i-preserved c =
    next_page c.args.outputs.now (choices_view c.args.usual.now) c.args.rows.now c.loop-i.i c.index-rows-i.result c.args.weight (pages_view c.args.pages.now.items) (pages_view c.loop-i.pages.items)
    (pages_view c.add_page.new.pages.items) c.loop-i-test.true c.index-rows-i.is c.loop-i.invariant c.in_ok-add_page.ensures
