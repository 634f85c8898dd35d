-- The blocks so far, before those of the other themes.
use Rattle.std.proofs.Common.{◌≡◌, ℕ, List, [], drop, length}
use Rattle.ring.specs.Lists.{AreApart}
use Rattle.theme_css.specs.Blocks.{blocks_after}
use Rattle.theme_css.specs.inner.Offers.{AreAllRanked}
use Rattle.theme_css.specs.inner.Pages.{themes_view}
use Rattle.theme_css.specs.inner.Views.{blocks_view}
use Rattle.theme_css.proofs.blocks.blocks_of.Given as goal

abbrev pub invariant-loop-theme : goal.invariant-loop-theme
invariant-loop-theme l = AreAllRanked l.count l.blocks.items
    × ((names : List (List ℕ)) → AreApart names → length names ≡ l.count
    → blocks_after names (blocks_view names l.blocks.items) (themes_view names (drop l.theme-index l.themes)) ≡ blocks_after names [] (themes_view names l.themes))
