use Rattle.std.proofs.Common.{◌≡◌}
use Rattle.token_cli.specs.inner.Step.{first_state}
use Rattle.token_cli.specs.inner.View.{workspace_view}
use Rattle.token_cli.proofs.Edited.{Edited}
use Rattle.token_cli.proofs.replaying.edit_all.Given as goal

abbrev pub invariant-loop-event : goal.invariant-loop-event
invariant-loop-event l =
    Edited l.events l.event-index (workspace_view l.workspace)
    × (l.workspace.engine.held ≡ first_state.held) × (l.workspace.engine.kept ≡ first_state.kept) × (l.workspace.commits ≡ 0)
