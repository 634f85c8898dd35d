-- The rows so far, with what is to be chosen yet.
use Rattle.std.proofs.Common.{◌≡◌, drop}
use Rattle.resolver_doc.specs.View.{order_view}
use Rattle.theme_css.specs.Themes.{pages}
use Rattle.theme_css.specs.inner.Pages.{rows_view, with_each}
use Rattle.theme_css.proofs.choices.rows_of.Given as goal

abbrev pub invariant-loop-item : goal.invariant-loop-item
invariant-loop-item l = with_each (rows_view l.rows.items) (pages (order_view (drop l.item-index l.order))) ≡ pages (order_view l.order)
