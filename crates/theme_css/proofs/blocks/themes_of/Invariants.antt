-- The themes of the pages so far.
use Rattle.std.proofs.Common.{◌≡◌, take, length}
use Rattle.theme_css.specs.inner.Offers.{AreThemesApart, AreThemesRanked}
use Rattle.theme_css.specs.inner.Pages.{pages_view, themes_view}
use Rattle.theme_css.specs.inner.Views.{names_view}
use Rattle.theme_css.proofs.blocks.themes_of.Given as goal

abbrev pub invariant-loop-page : goal.invariant-loop-page
invariant-loop-page l =
    (themes_view (names_view l.names.items) l.themes.items ≡ pages_view (take l.page-index l.pages)) × AreThemesRanked (length l.names.items) l.themes.items
    × AreThemesApart l.themes.items
