use Rattle.std.proofs.Common.{map}
use Rattle.resolver_doc.specs.View.{sets_view}
use Rattle.theme_css.specs.inner.Choices.{choice_of}
use Rattle.theme_css.specs.inner.Pages.{rows_view}
use Rattle.theme_css.proofs.Choosing.{next_with}
use Rattle.theme_css.proofs.choices.with_contexts.Goals as goal

pub loop-row-preserved : goal.loop-row-preserved
loop-row-preserved c =
    next_with c.args.rows.now c.loop-row.row-index c.row-item.result (map (choice_of c.args.modifier.now) (sets_view c.args.contexts.now)) (rows_view c.loop-row.all.items) (rows_view c.add_longer.new.rows.items)
    c.loop-row-test.true c.row-item.is c.loop-row.invariant c.in_ok-add_longer.ensures
