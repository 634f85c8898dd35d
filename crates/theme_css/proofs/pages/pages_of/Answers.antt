use Rattle.std.proofs.Common.{◌≡◌, ◌∙◌, arith, length, sym}
use Rattle.std.proofs.lemmas.List.{length-map}
use Rattle.theme_css.specs.inner.Pages.{pages_view, rows_view}
use Rattle.theme_css.specs.inner.Views.{choice_view, choices_view}
use Rattle.theme_css.proofs.Adding.{all_weights, next_weight}
use Rattle.theme_css.proofs.pages.pages_of.Goals as goal

pub loop-weight-preserved : goal.loop-weight-preserved
loop-weight-preserved c =
    next_weight c.args.outputs.now (choices_view c.args.usual.now) (rows_view c.args.rows.now) c.loop-weight.weight (pages_view c.loop-weight.pages.items) (pages_view c.add_pages.new.pages.items)
    c.loop-weight.invariant c.in_ok-add_pages.ensures

pub returns : goal.returns
returns c =
    let usual = c.args.usual.now in
    let last : c.loop-weight.weight ≡ length usual = omega arith in
    all_weights c.args.outputs.now (choices_view usual) (rows_view c.args.rows.now) c.loop-weight.weight (length usual) (pages_view c.loop-weight.pages.items) (pages_view c.add_pages-2.new.pages.items)
    c.loop-weight.invariant c.in_ok-add_pages-2.ensures (last ∙ sym (length-map usual choice_view)) (sym (length-map usual choice_view))
