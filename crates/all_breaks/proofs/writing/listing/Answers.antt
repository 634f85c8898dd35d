use Rattle.std.proofs.Common.{◌<◌, subst}
use Rattle.all_breaks.proofs.Listings.{listed_next}
use Rattle.all_breaks.proofs.writing.listing.Goals as goal

pub loop-i-preserved : goal.loop-i-preserved
loop-i-preserved c =
    listed_next c.args.told.now c.loop-i.i (subst (λ n. c.loop-i.i < n) c.len-i-end.ensures c.loop-i-test.true) c.loop-i.out c.append_at.new.out c.loop-i.invariant c.in_ok-append_at.ensures
