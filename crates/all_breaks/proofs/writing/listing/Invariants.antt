-- The text of the breaks so far.
use Rattle.std.proofs.Common.{◌≡◌, take}
use Rattle.all_breaks.specs.Told.{listing_text}
use Rattle.all_breaks.proofs.writing.listing.Given as goal

abbrev pub invariant-loop-i : goal.invariant-loop-i
invariant-loop-i l = l.out ≡ listing_text (take l.i l.told)
