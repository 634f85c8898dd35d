use Rattle.std.proofs.Common.{◌∙◌, ap}
use Rattle.resolver_doc.specs.View.{order_view}
use Rattle.theme_css.specs.Themes.{pages}
use Rattle.theme_css.specs.inner.Pages.{rows_view, with_each}
use Rattle.theme_css.proofs.Choosing.{Rows, first_rows, last_rows, next_rows}
use Rattle.theme_css.proofs.choices.rows_of.Goals as goal

pub loop-item-init : goal.loop-item-init
loop-item-init c =
    let all = pages (order_view c.args.order.now) in
    ap (λ (rs : Rows). with_each rs all) c.in_ok-rows.ensures ∙ first_rows all

pub loop-item-preserved : goal.loop-item-preserved
loop-item-preserved c =
    next_rows c.args.order.now c.loop-item.item-index c.item-item.result (rows_view c.loop-item.rows.items) (rows_view c.in_ok-rows-2.rows.items) (pages (order_view c.args.order.now)) c.loop-item-test.true c.item-item.is
    c.in_ok-rows-2.ensures c.loop-item.invariant

pub returns : goal.returns
returns c = last_rows c.args.order.now c.loop-item.item-index (rows_view c.loop-item.rows.items) (pages (order_view c.args.order.now)) c.loop-item-test.false c.loop-item.invariant
