use Rattle.std.proofs.Common.{◌∙◌, None, ap}
use Rattle.theme_css.specs.inner.Views.{offers_view}
use Rattle.theme_css.proofs.Offering.{filled, nothing}
use Rattle.theme_css.proofs.offers.no_offers.Goals as goal

pub returns-clause-none : goal.returns-clause-none
returns-clause-none c names len =
    ap offers_view (c.in_ok-resize.ensures.items ∙ filled c.new-offers.result.items c.args.count _ None c.new-offers.ensures.items c.new-offers.ensures.len) ∙ nothing c.args.count names len
