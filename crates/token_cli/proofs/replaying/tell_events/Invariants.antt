use Rattle.std.proofs.Common.{◌≤◌}
use Rattle.token_cli.specs.inner.View.{workspace_view}
use Rattle.token_cli.proofs.Edited.{Edited}
use Rattle.token_cli.proofs.Standing.{Stands}
use Rattle.token_cli.proofs.replaying.tell_events.Given as goal

abbrev pub invariant-loop-event : goal.invariant-loop-event
invariant-loop-event g l =
    Edited l.events l.event-index (workspace_view l.workspace)
    × Stands l.telling l.events l.event-index (workspace_view l.workspace) (g.K.Sink.written l.fn.out) (g.K.Sink.written l.out)
    × (g.K.Sink.faults l.fn.out ≤ g.K.Sink.faults l.out)
