use Rattle.std.proofs.Common.{◌≡◌, true}
use Rattle.theme_css.specs.inner.Order.{Follows}
use Rattle.theme_css.specs.inner.Pages.{theme_view}
use Rattle.theme_css.proofs.Ordering.{all_next}
use Rattle.theme_css.proofs.order.all_follow.Goals as goal

pub loop-each-preserved : goal.loop-each-preserved
loop-each-preserved c names rest =
    let good : c.follows.result ≡ true = cc in
    c.loop-each.invariant names (all_next (Follows (theme_view names c.args.theme.now)) names c.args.later.now c.loop-each.each-index c.each-item.result c.loop-each-test.true c.each-item.is (c.follows.ensures names good) rest)
