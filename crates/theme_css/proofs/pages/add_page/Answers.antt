use Rattle.std.proofs.Common.{◌≡◌, ◌∙◌, [], ◌∷◌, ap, arith, length, sym, subst}
use Rattle.std.proofs.lemmas.List.{length-map, map-append}
use Rattle.theme_css.specs.Themes.{odd}
use Rattle.theme_css.specs.declared.pages.Page.{Page}
use Rattle.theme_css.specs.inner.Pages.{HasSheet, lines_view, page_view, pages_view, row_view}
use Rattle.theme_css.specs.inner.Views.{choice_view, choices_view}
use Rattle.theme_css.proofs.Adding.{at_weight, is_theme}
use Rattle.theme_css.proofs.pages.add_page.Goals as goal

pub returns : goal.returns
returns c =
    let out = c.args.outputs.now in
    let us = choices_view c.args.usual.now in
    let row = row_view c.args.row.now in
    let page : Page = record { page = c.as_slice-page.result; odd = c.in_ok-odd.odd; lines = c.in_ok-lines.lines } in
    let same : choices_view c.as_slice-page.result.now ≡ row = ap choices_view c.as_slice-page.ensures.value in
    let unusual : choices_view c.in_ok-odd.odd.items ≡ odd us row = c.in_ok-odd.ensures ∙ ap (odd us) same in
    let sheet = subst (λ n. HasSheet out n (lines_view c.in_ok-lines.lines.items)) c.requires c.in_ok-lines.ensures in
    let theme = is_theme out us row (page_view page) same unusual sheet in
    let long : length c.in_ok-odd.odd.items ≡ length (odd us row) = sym (length-map c.in_ok-odd.odd.items choice_view) ∙ ap length unusual in
    at_weight out us row c.args.weight c.len.result (pages_view c.args.pages.now.items) (pages_view c.push.new.self.items) (page_view page)
    (omega (arith, long)) (omega arith) (ap pages_view c.in_ok-push.ensures.items ∙ map-append page_view c.args.pages.now.items (page ∷ [])) theme
