use Rattle.std.proofs.Common.{◌≡◌, drop}
use Rattle.std.specs.List.{list_all}
use Rattle.theme_css.specs.Cascade.{is_among}
use Rattle.theme_css.specs.inner.Views.{choices_view}
use Rattle.theme_css.proofs.choice.are_among.Given as goal

abbrev pub invariant-loop-choice : goal.invariant-loop-choice
invariant-loop-choice l = list_all (is_among (choices_view l.page)) (choices_view (drop l.choice-index l.asked)) ≡ list_all (is_among (choices_view l.page)) (choices_view l.asked)
