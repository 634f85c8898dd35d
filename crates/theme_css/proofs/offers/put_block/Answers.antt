use Rattle.std.proofs.Common.{◌≡◌, ◌∙◌, length, true}
use Rattle.theme_css.specs.Cascade.{offer, stronger}
use Rattle.theme_css.specs.inner.Offers.{all_offered}
use Rattle.theme_css.specs.inner.Views.{block_view, choices_view}
use Rattle.theme_css.proofs.Named.{map_alike}
use Rattle.theme_css.proofs.Offering.{block_offer_by}
use Rattle.theme_css.proofs.offers.put_block.Goals as goal

pub returns-clause-put : goal.returns-clause-put
returns-clause-put c names f apart is =
    let b = c.args.block.now in
    let page = choices_view c.args.page.now in
    let held : c.are_among.result ≡ true = cc in
    c.put_offers.ensures.put names f apart is
    ∙ map_alike (λ n. all_offered names (length b.odd.now) n (f n) c.as_slice.result.now) (λ n. stronger (f n) (offer page n (block_view names b))) names
    (λ n i. block_offer_by names page b n (f n) c.are_among.result c.as_slice.result.now c.as_slice.ensures.value c.are_among.ensures held)
