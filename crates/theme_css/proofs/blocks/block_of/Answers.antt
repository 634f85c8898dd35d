use Rattle.std.proofs.Common.{◌≡◌, ◌∙◌, ◌<◌, None, List, ap, ap₂, filter, map, subst, sym}
use Rattle.theme_css.specs.Blocks.{needed}
use Rattle.theme_css.specs.Cascade.{Block, Declaration, cascade, strongest}
use Rattle.permutations.specs.Name.{Choice}
use Rattle.theme_css.specs.inner.Offers.{AreRanked, all_offered, differs_at}
use Rattle.theme_css.specs.inner.Views.{blocks_view, choices_view, declarations_at, offers_view}
use Rattle.theme_css.proofs.Needing.{all-filter, needed_is}
use Rattle.theme_css.proofs.blocks.block_of.Goals as goal

pub returns-clause-view : goal.returns-clause-view
returns-clause-view c names apart len =
    let bs = blocks_view names c.args.blocks.now in
    let page = choices_view c.args.theme.now.page.now in
    let own = c.args.theme.now.own.items in
    let before = c.in_ok-before.ensures.offers names apart len in
    let given = subst (λ ds. offers_view c.in_ok-own.own.items ≡ map (λ n. all_offered names 0 n None ds) names) c.as_slice.ensures.value (c.in_ok-own.ensures.offers names apart len) in
    let chosen = subst (λ ds. c.in_ok-declared.declared.items ≡ filter (λ d. differs_at (offers_view c.in_ok-before.before.items) (offers_view c.in_ok-own.own.items) d.rank) ds) c.as_slice-2.ensures.value c.in_ok-declared.ensures in
    let added = c.in_ok-add_gone.ensures.added names (len ∙ sym c.in_ok-before.ensures.len) (λ n. strongest page n None bs) (λ n. all_offered names 0 n None own) before given in
    let whole : declarations_at names c.add_gone.new.declared.items ≡ needed names (cascade bs page) (declarations_at names own) =
    needed_is names own bs page (offers_view c.in_ok-before.before.items) (offers_view c.in_ok-own.own.items) c.in_ok-declared.declared.items (declarations_at names c.add_gone.new.declared.items)
    (subst (λ k. AreRanked k own) (sym len) c.requires.theme) before given chosen added in
    let block : List Choice → List Declaration → Block = λ xs ys. record { attributes = xs; declarations = ys } in
    ap₂ block (ap choices_view c.as_slice-3.ensures.value) whole

pub returns-clause-known : goal.returns-clause-known
returns-clause-known c =
    let count = c.args.count in
    let long = c.in_ok-before.ensures.len in
    let own = subst (AreRanked count) (sym c.as_slice-2.ensures.value) c.requires.theme in
    let chosen = all-filter (λ d. d.rank < count) (λ d. differs_at (offers_view c.in_ok-before.before.items) (offers_view c.in_ok-own.own.items) d.rank) c.as_slice-2.result.now own in
    let known = subst (AreRanked count) (sym c.in_ok-declared.ensures) chosen in
    subst (λ k. AreRanked k c.add_gone.new.declared.items) long (c.in_ok-add_gone.ensures.known (subst (λ k. AreRanked k c.in_ok-declared.declared.items) (sym long) known))
