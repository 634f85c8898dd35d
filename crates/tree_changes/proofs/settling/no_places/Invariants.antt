-- No place for the tokens so far.
use Rattle.std.proofs.Common.{◌≡◌, None, replicate}
use Rattle.tree_changes.proofs.settling.no_places.Given as goal

abbrev pub invariant-loop-token : goal.invariant-loop-token
invariant-loop-token l = l.places.items ≡ replicate l._token None
