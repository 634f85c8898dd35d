-- The declarations so far are put.
use Rattle.std.proofs.Common.{◌≡◌, drop, length}
use Rattle.theme_css.specs.inner.Offers.{AreRanked}
use Rattle.theme_css.specs.inner.Views.{offers_view}
use Rattle.theme_css.proofs.Offering.{HasPut}
use Rattle.theme_css.proofs.offers.put_offers.Given as goal

abbrev pub invariant-loop-each : goal.invariant-loop-each
invariant-loop-each l =
    (length l.offers.items ≡ length l.fn.offers.items) × AreRanked (length l.offers.items) (drop l.each-index l.declared)
    × HasPut l.weight l.declared (offers_view l.fn.offers.items) (offers_view l.offers.items) l.each-index
