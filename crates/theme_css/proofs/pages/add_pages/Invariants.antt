-- The pages of the rows so far are added.
use Rattle.std.proofs.Common.{take}
use Rattle.theme_css.specs.Themes.{with_weight}
use Rattle.theme_css.specs.inner.Pages.{AddsThemes, pages_view, rows_view}
use Rattle.theme_css.specs.inner.Views.{choices_view}
use Rattle.theme_css.proofs.pages.add_pages.Given as goal

abbrev pub invariant-loop-i : goal.invariant-loop-i
invariant-loop-i l = AddsThemes l.outputs (choices_view l.usual) (with_weight (choices_view l.usual) (rows_view (take l.i l.rows)) l.weight) (pages_view l.fn.pages.items) (pages_view l.pages.items)
