-- The lines so far have their places.
use Rattle.std.proofs.Common.{◌≡◌, take, length}
use Rattle.theme_css.specs.inner.Offers.{AreRanked}
use Rattle.theme_css.specs.inner.Pages.{lines_view}
use Rattle.theme_css.specs.inner.Views.{declarations_at, names_view}
use Rattle.theme_css.proofs.table.ranked.Given as goal

abbrev pub invariant-loop-line : goal.invariant-loop-line
invariant-loop-line l = (declarations_at (names_view l.names.items) l.declared.items ≡ lines_view (take l.line-index l.lines)) × AreRanked (length l.names.items) l.declared.items
