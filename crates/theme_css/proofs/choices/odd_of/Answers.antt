use Rattle.theme_css.specs.Themes.{odd}
use Rattle.theme_css.specs.inner.Views.{choices_view}
use Rattle.theme_css.proofs.Choosing.{last_odd, next_odd}
use Rattle.theme_css.proofs.choices.odd_of.Goals as goal

pub loop-at-preserved : goal.loop-at-preserved
loop-at-preserved c =
    next_odd c.args.usual.now c.args.page.now c.loop-at.at _ (choices_view c.loop-at.others.items) (choices_view c.add_if_odd.new.others.items) (odd (choices_view c.args.usual.now) (choices_view c.args.page.now))
    c.loop-at-test.true c.in_ok-add_if_odd.ensures c.loop-at.invariant

pub returns : goal.returns
returns c =
    last_odd c.args.usual.now c.args.page.now c.loop-at.at (choices_view c.loop-at.others.items) (odd (choices_view c.args.usual.now) (choices_view c.args.page.now)) c.loop-at-test.false c.loop-at.invariant
