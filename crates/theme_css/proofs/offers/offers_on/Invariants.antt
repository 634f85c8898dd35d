-- The blocks so far are put.
use Rattle.std.proofs.Common.{◌≡◌, drop, length}
use Rattle.theme_css.specs.inner.Offers.{AreAllRanked}
use Rattle.theme_css.specs.inner.Views.{choices_view, offers_view}
use Rattle.theme_css.proofs.Offering.{HasPutBlocks}
use Rattle.theme_css.proofs.offers.offers_on.Given as goal

abbrev pub invariant-loop-block : goal.invariant-loop-block
invariant-loop-block l =
    (length l.offers.items ≡ l.count) × AreAllRanked l.count (drop l.block-index l.blocks)
    × HasPutBlocks (choices_view l.page) l.blocks l.count (offers_view l.offers.items) l.block-index
