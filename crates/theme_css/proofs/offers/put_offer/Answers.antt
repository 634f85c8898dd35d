use Rattle.theme_css.proofs.Offering.{put_stronger}
use Rattle.theme_css.specs.declared.offers.Offer.{Offer}
use Rattle.theme_css.specs.inner.Views.{offer_of}
use Rattle.std.proofs.Common.{refl}
use Rattle.theme_css.proofs.offers.put_offer.Goals as goal

pub returns-then-is_weaker : goal.returns-then-is_weaker
returns-then-is_weaker c =
    let x : Offer = record { weight = c.args.weight; value = c.args.declared.now.value } in
    put_stronger c.args.offers.now.items c.args.declared.now.rank x c.is_weaker.result c.if-is_weaker.true (c.is_weaker.ensures (offer_of c.args.weight c.args.declared.now) refl)
