-- The pages so far, by how many contexts are not the usual ones.
use Rattle.std.specs.List.{AllZip, flat_map, range_with_len}
use Rattle.theme_css.specs.Themes.{IsTheme, with_weight}
use Rattle.theme_css.specs.inner.Pages.{pages_view, rows_view}
use Rattle.theme_css.specs.inner.Views.{choices_view}
use Rattle.theme_css.proofs.pages.pages_of.Given as goal

abbrev pub invariant-loop-weight : goal.invariant-loop-weight
invariant-loop-weight l = AllZip (IsTheme l.outputs (choices_view l.usual)) (flat_map (with_weight (choices_view l.usual) (rows_view l.rows)) (range_with_len 0 l.weight)) (pages_view l.pages.items)
