use Rattle.std.proofs.Common.{◌≡◌, drop}
use Rattle.alias_ref.specs.inner.Remembering.{all_known}
use Rattle.alias_ref.proofs.remembering.all_known.Given as goal

abbrev pub invariant-loop-place : goal.invariant-loop-place
invariant-loop-place l = all_known l.memory.known.items l.i (drop l.place-index l.places) ≡ all_known l.memory.known.items l.i l.places
