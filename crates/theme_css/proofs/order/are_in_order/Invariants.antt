-- Those so far are in order.
use Rattle.std.proofs.Common.{ℕ, List, drop}
use Rattle.theme_css.specs.inner.Order.{AllFollow}
use Rattle.theme_css.specs.inner.Pages.{themes_view}
use Rattle.theme_css.proofs.order.are_in_order.Given as goal

abbrev pub invariant-loop-i : goal.invariant-loop-i
invariant-loop-i l = (names : List (List ℕ)) → AllFollow (themes_view names (drop l.i l.themes)) → AllFollow (themes_view names l.themes)
