use Rattle.std.proofs.Common.{◌∙◌, ap, map, subst, sym}
use Rattle.std.specs.List.{AllByRecursion, AllZip}
use Rattle.permutations.specs.Name.{name_of}
use Rattle.resolver_doc.specs.View.{order_view}
use Rattle.theme_css.specs.Themes.{IsTheme, by_weight}
use Rattle.theme_css.specs.inner.Order.{HasNoInitial}
use Rattle.theme_css.specs.inner.Pages.{pages_view, rows_view}
use Rattle.theme_css.specs.inner.Views.{choices_view}
use Rattle.theme_css.proofs.Adding.{none_initial, order_sheet}
use Rattle.theme_css.proofs.sheet.sheet_of_order.Goals as goal

pub pages_of-requires : goal.pages_of-requires
pages_of-requires c = c.requires ∙ ap (map name_of) (sym (ap rows_view c.as_slice-2.ensures.value ∙ c.in_ok-rows.ensures))

pub sheet_of_pages-requires : goal.sheet_of_pages-requires
sheet_of_pages-requires c =
    subst (λ ps. AllByRecursion HasNoInitial (pages_view ps)) (sym c.as_slice-3.ensures.value)
    (none_initial c.args.outputs.now (choices_view c.as_slice.result.now) (by_weight (choices_view c.as_slice.result.now) (rows_view c.as_slice-2.result.now)) (pages_view c.in_ok-pages.pages.items) c.in_ok-pages.ensures)

pub returns-clause-sheet : goal.returns-clause-sheet
returns-clause-sheet c =
    let us = choices_view c.as_slice.result.now in
    let rows = rows_view c.as_slice-2.result.now in
    order_sheet c.args.outputs.now (order_view c.args.order.now) us rows (pages_view c.as_slice-3.result.now) _ (sym c.in_default.ensures)
    (ap choices_view c.as_slice.ensures.value ∙ c.in_ok-usual.ensures) (ap rows_view c.as_slice-2.ensures.value ∙ c.in_ok-rows.ensures)
    (subst (λ ps. AllZip (IsTheme c.args.outputs.now us) (by_weight us rows) (pages_view ps)) (sym c.as_slice-3.ensures.value) c.in_ok-pages.ensures) c.in_ok-sheet_of_pages.ensures
