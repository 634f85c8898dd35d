-- The rows so far have each context behind them.
use Rattle.std.proofs.Common.{◌≡◌, take, map}
use Rattle.resolver_doc.specs.View.{sets_view}
use Rattle.theme_css.specs.inner.Choices.{choice_of}
use Rattle.theme_css.specs.inner.Pages.{rows_view, with_each}
use Rattle.theme_css.proofs.choices.with_contexts.Given as goal

abbrev pub invariant-loop-row : goal.invariant-loop-row
invariant-loop-row l = rows_view l.all.items ≡ with_each (rows_view (take l.row-index l.rows)) (map (choice_of l.modifier) (sets_view l.contexts))
