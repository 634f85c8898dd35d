use Rattle.std.proofs.Common.{[], Some, None, ◌≡◌, ◌<◌, ◌∙◌, ◌+◌, drop, get_or, length, ap, sym, refl, subst}
use Rattle.std.proofs.lemmas.List.{length-map, length-set}
use Rattle.std.specs.Prelude.{option_map}
use Rattle.theme_css.specs.declared.offers.Declared.{Declared}
use Rattle.theme_css.specs.Cascade.{stronger}
use Rattle.theme_css.specs.inner.Offers.{AreRanked}
use Rattle.theme_css.specs.inner.Views.{offer_of, offer_view, offers_view}
use Rattle.theme_css.proofs.Offering.{all_put, first_ranked, next_put, none_put}
use Rattle.theme_css.proofs.offers.put_offers.Goals as goal

pub loop-each-init : goal.loop-each-init
loop-each-init c = (refl, c.requires, none_put c.args.weight c.args.declared.now (offers_view c.args.offers.now.items))

pub loop-each-preserved : goal.loop-each-preserved
loop-each-preserved c =
    let b = c.loop-each.invariant in
    let ds = c.args.declared.now in
    let i = c.loop-each.each-index in
    let d : Declared = record { rank = 0; value = record { ref_ptr = (0, 0); now = [] } } in
    let now = c.loop-each.offers.items in
    let new = c.put_offer.new.offers.items in
    let more = first_ranked (length now) ds i d c.loop-each-test.true b.1 in
    let same : length new ≡ length now =
    sym (length-map new (option_map offer_view)) ∙ (ap length c.put_offer.ensures ∙ (length-set (offers_view now) (get_or ds i d).rank (stronger (get_or (offers_view now) (get_or ds i d).rank None) (Some (offer_of c.args.weight (get_or ds i d)))) ∙ length-map now (option_map offer_view))) in (
      same ∙ b.0,
      subst (λ k. AreRanked k (drop (i + 1) ds)) (sym same) more.1,
      next_put c.args.weight ds (offers_view c.args.offers.now.items) (offers_view now) (offers_view new) i d b.2 c.loop-each-test.true
          (subst (λ k. (get_or ds i d).rank < k) (sym (length-map now (option_map offer_view))) more.0) c.put_offer.ensures,
    )

pub returns-clause-put : goal.returns-clause-put
returns-clause-put c =
    let b = c.loop-each.invariant in
    all_put c.args.weight c.args.declared.now (offers_view c.args.offers.now.items) (offers_view c.loop-each.offers.items) c.loop-each.each-index b.2 c.loop-each-test.false
