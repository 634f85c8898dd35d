-- The contexts so far are behind the row.
use Rattle.std.proofs.Common.{◌≡◌, ◌++◌, take, map}
use Rattle.resolver_doc.specs.View.{sets_view}
use Rattle.theme_css.specs.inner.Choices.{choice_of}
use Rattle.theme_css.specs.inner.Pages.{row_view, rows_view}
use Rattle.theme_css.proofs.choices.add_longer.Given as goal

abbrev pub invariant-loop-context : goal.invariant-loop-context
invariant-loop-context l = rows_view l.rows.items ≡ rows_view l.fn.rows.items ++ map (λ o. row_view l.row ++ o) (map (choice_of l.modifier) (sets_view (take l.context-index l.contexts)))
