-- The events so far were taken into the files.
use Rattle.std.proofs.Common.{◌≡◌}
use Rattle.file_plan.proofs.EventsTaken.{Taken}
use Rattle.file_plan.proofs.files.Files.load.Given as goal

abbrev pub invariant-loop-event : goal.invariant-loop-event
invariant-loop-event l = Taken l.events l.event-index l.files l.made × (l.number ≡ l.event-index)
