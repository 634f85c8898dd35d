use Rattle.std.proofs.Common.{◌∙◌, ap, map, sym}
use Rattle.permutations.specs.Name.{name_of}
use Rattle.permutations.specs.View.{perms_view}
use Rattle.resolver_doc.specs.ResolverView.{resolver_view}
use Rattle.resolver_doc.specs.View.{order_view}
use Rattle.theme_css.specs.Themes.{pages}
use Rattle.theme_css.proofs.Answering.{permutation_names}
use Rattle.theme_css.proofs.sheet.sheet_of_resolver.Goals as goal

pub sheet_of_order-requires : goal.sheet_of_order-requires
sheet_of_order-requires c =
    ap (map (λ n. n.now)) c.as_slice-3.ensures.value
    ∙ (c.in_ok-names.ensures ∙ (ap (λ ps. map (λ p. p.name) (perms_view ps)) c.as_slice.ensures
    ∙ (ap (map (λ p. p.name)) c.in-Ok.ensures.perms ∙ (permutation_names (resolver_view c.args.resolver.now) ∙ ap (λ o. map name_of (pages (order_view o))) (sym c.as_slice-2.ensures)))))
