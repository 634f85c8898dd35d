-- The unusual ones so far, before those that are still to come.
use Rattle.std.proofs.Common.{◌≡◌, ◌++◌, drop}
use Rattle.theme_css.specs.Themes.{odd}
use Rattle.theme_css.specs.inner.Views.{choices_view}
use Rattle.theme_css.proofs.choices.odd_of.Given as goal

abbrev pub invariant-loop-at : goal.invariant-loop-at
invariant-loop-at l = choices_view l.others.items ++ odd (choices_view (drop l.at l.usual)) (choices_view (drop l.at l.page)) ≡ odd (choices_view l.usual) (choices_view l.page)
