use Rattle.std.proofs.Common.{◌≡◌, ◌∙◌, [], true, arith, length, ap, subst, sym}
use Rattle.std.proofs.lemmas.List.{length-map}
use Rattle.theme_css.specs.Blocks.{blocks_after}
use Rattle.theme_css.specs.Sheet.{sheet_text}
use Rattle.theme_css.specs.Themes.{AreNamesOf, DeclareOnce, IsSheetOf}
use Rattle.theme_css.specs.inner.Offers.{AreThemesRanked}
use Rattle.theme_css.specs.inner.Order.{AllFollow}
use Rattle.theme_css.specs.inner.Pages.{pages_view, themes_view}
use Rattle.theme_css.specs.inner.Views.{blocks_view, names_view}
use Rattle.theme_css.proofs.Adding.{ok_map, themes_known}
use Rattle.theme_css.proofs.Apart.{declare_once}
use Rattle.theme_css.proofs.Rising.{rising_apart}
use Rattle.theme_css.proofs.Shows.{shows_each}
use Rattle.theme_css.proofs.sheet.sheet_of_pages.Goals as goal

pub returns : goal.returns
returns c =
    let items = c.in_ok-names.names.items in
    let names = names_view items in
    let ts = c.in_ok-themes.themes.items in
    let bs = c.in_ok-blocks.blocks.items in
    let pages = pages_view c.args.pages.now in
    let long : length names ≡ length items = length-map items (λ n. n.now) in
    let same : themes_view names ts ≡ pages = c.in_ok-themes.ensures.view in
    let known : AreNamesOf names pages = subst (AreNamesOf names) same (themes_known names ts (subst (λ k. AreThemesRanked k ts) (sym long) c.in_ok-themes.ensures.known)) in
    let once : DeclareOnce pages =
    subst DeclareOnce same (declare_once names (rising_apart names c.in_ok-names.ensures) ts (subst (λ k. AreThemesRanked k ts) (sym long) c.in_ok-themes.ensures.known) c.in_ok-themes.ensures.once) in
    let good : c.are_in_order.result ≡ true = cc in
    let follow : AllFollow pages = subst AllFollow (ap (themes_view names) c.as_slice.ensures.value ∙ same) (c.are_in_order.ensures names good) in
    let blocks : blocks_view names bs ≡ blocks_after names [] pages =
    c.in_ok-blocks.ensures.view names (rising_apart names c.in_ok-names.ensures) (omega (arith, long)) ∙ ap (blocks_after names []) (ap (themes_view names) c.as_slice-2.ensures.value ∙ same) in
    ok_map c.sheet_of.result (λ sheet. sheet ≡ sheet_text (blocks_view names c.as_slice-3.result.now)) (IsSheetOf pages)
    (λ sheet e. record {
      names = names;
      rise = c.in_ok-names.ensures;
      all = known;
      once = once;
      text = e ∙ ap sheet_text (ap (blocks_view names) c.as_slice-3.ensures.value ∙ blocks);
      shows_each = shows_each names pages follow c.requires known;
    }) c.sheet_of.ensures
