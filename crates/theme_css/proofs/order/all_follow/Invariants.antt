-- Those so far follow.
use Rattle.std.proofs.Common.{ℕ, List, drop}
use Rattle.std.specs.List.{AllByRecursion}
use Rattle.theme_css.specs.inner.Order.{Follows}
use Rattle.theme_css.specs.inner.Pages.{theme_view, themes_view}
use Rattle.theme_css.proofs.order.all_follow.Given as goal

abbrev pub invariant-loop-each : goal.invariant-loop-each
invariant-loop-each l = (names : List (List ℕ)) → AllByRecursion (Follows (theme_view names l.theme)) (themes_view names (drop l.each-index l.later)) → AllByRecursion (Follows (theme_view names l.theme)) (themes_view names l.later)
