-- The events so far, and what is left.
use denote.Text.{Utf8}
use denote.Shadow.{shadow}
use Rattle.std.proofs.Common.{length}
use Rattle.edit_script.proofs.Readings.{IsReadTo}
use Rattle.edit_script.proofs.script.read_script.Given as goal

abbrev pub invariant-loop-rest : goal.invariant-loop-rest
invariant-loop-rest l = shadow (Utf8 l.rest) × IsReadTo l.version l.text l.events l.rest

abbrev pub decreases-loop-rest : goal.decreases-loop-rest
decreases-loop-rest l = length l.rest
