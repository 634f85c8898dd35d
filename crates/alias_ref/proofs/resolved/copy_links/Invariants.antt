-- Those so far.
use Rattle.std.proofs.Common.{◌≡◌, take}
use Rattle.alias_ref.proofs.resolved.copy_links.Given as goal

abbrev pub invariant-loop-link : goal.invariant-loop-link
invariant-loop-link l = l.copy ≡ take l.link-index l.items
