use Rattle.std.proofs.Common.{◌≡◌, drop}
use Rattle.theme_css.specs.Cascade.{is_among}
use Rattle.theme_css.specs.inner.Views.{choice_view, choices_view}
use Rattle.theme_css.proofs.choice.is_among.Given as goal

abbrev pub invariant-loop-each : goal.invariant-loop-each
invariant-loop-each l = is_among (choices_view (drop l.each-index l.page)) (choice_view l.choice) ≡ is_among (choices_view l.page) (choice_view l.choice)
