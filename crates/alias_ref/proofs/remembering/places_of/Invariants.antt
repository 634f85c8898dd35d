use Rattle.std.proofs.Common.{take}
use Rattle.alias_ref.specs.inner.Remembering.{AreAt}
use Rattle.alias_ref.proofs.remembering.places_of.Given as goal

abbrev pub invariant-loop-path : goal.invariant-loop-path
invariant-loop-path l = AreAt l.tokens (take l.path-index l.named) l.places.items
