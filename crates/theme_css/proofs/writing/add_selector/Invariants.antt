-- The attributes so far are written.
use Rattle.std.proofs.Common.{◌≡◌, ◌++◌, take, codes}
use Rattle.std.specs.List.{flat_map}
use Rattle.theme_css.specs.Sheet.{attribute_text}
use Rattle.theme_css.specs.inner.Views.{choices_view}
use Rattle.theme_css.proofs.writing.add_selector.Given as goal

abbrev pub invariant-loop-choice : goal.invariant-loop-choice
invariant-loop-choice l = l.out ≡ (l.fn.out ++ codes ":root") ++ flat_map attribute_text (choices_view (take l.choice-index l.asked))
