use Rattle.std.proofs.Common.{◌≡◌, drop}
use Rattle.alias_ref.specs.inner.Literals.{has_token}
use Rattle.alias_ref.proofs.trace.has_token.Given as goal

abbrev pub invariant-loop-place : goal.invariant-loop-place
invariant-loop-place l = has_token l.token (drop l.place-index l.places) ≡ has_token l.token l.places
