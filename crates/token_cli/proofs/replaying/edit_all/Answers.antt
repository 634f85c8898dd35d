use Rattle.std.proofs.Common.{◌∙◌, ap, arith}
use Rattle.edit_script.specs.View.{event_view}
use Rattle.token_cli.specs.inner.Edits.{EditsFail}
use Rattle.token_cli.specs.inner.Step.{State}
use Rattle.token_cli.specs.inner.View.{workspace_view}
use Rattle.token_cli.specs.declared.stop.Stop.{Stop}
use Rattle.file_plan.proofs.EventsTaken.{taken_bound}
use Rattle.token_cli.proofs.Edited.{edited_all, edited_first, edited_more}
use Rattle.token_cli.proofs.Endings.{edits_end}
use Rattle.token_cli.proofs.Places.{all_listed, read_listed}
use Rattle.token_cli.proofs.Stops.{if_err_is}
use Rattle.token_cli.proofs.replaying.edit_all.Goals as goal

pub loop-event-init : goal.loop-event-init
loop-event-init c =
    (edited_first c.args.events.now (workspace_view c.args.workspace.now) c.requires, ap (λ (s : State). s.held) c.requires, ap (λ (s : State). s.kept) c.requires, ap (λ (s : State). s.commits) c.requires)

pub edit-requires-clause-room : goal.edit-requires-clause-room
edit-requires-clause-room c = omega (arith, c.loop-event.invariant.0.count, c.loop-event-test.true)

pub edit-requires-clause-made : goal.edit-requires-clause-made
edit-requires-clause-made c = taken_bound c.args.events.now c.loop-event.event-index c.loop-event.workspace.engine.files c.loop-event.workspace.made c.loop-event.invariant.0.events

pub returns-in_err-edit-clause-err : goal.returns-in_err-edit-clause-err
returns-in_err-edit-clause-err c =
    let es = c.args.events.now in
    let i = c.loop-event.event-index in
    let P : Stop → Type 0 = λ why. EditsFail why es in
    if_err_is c.from_residual.result c.in_err-edit.field-0.0 P c.from_residual.ensures.1
    (edits_end c.in_err-edit.field-0.0 es i _ (workspace_view c.loop-event.workspace) (read_listed c.as_slice-event-items.result.now event_view es i _ c.as_slice-event-items.ensures c.loop-event-test.true) c.loop-event.invariant.0 c.in_err-edit.ensures.err)

pub loop-event-preserved : goal.loop-event-preserved
loop-event-preserved c =
    let es = c.args.events.now in
    let i = c.loop-event.event-index in
    let edit = c.in_ok-edit.ensures.ok in
    let at = read_listed c.as_slice-event-items.result.now event_view es i _ c.as_slice-event-items.ensures c.loop-event-test.true in
    (edited_more es i _ (workspace_view c.loop-event.workspace) (workspace_view c.edit.new.self) at c.loop-event.invariant.0 edit, edit.held ∙ c.loop-event.invariant.1, edit.kept ∙ c.loop-event.invariant.2, edit.commits ∙ c.loop-event.invariant.3)

pub returns-clause-ok : goal.returns-clause-ok
returns-clause-ok c =
    let es = c.args.events.now in
    let i = c.loop-event.event-index in
    let done = all_listed c.as_slice-event-items.result.now event_view es i c.as_slice-event-items.ensures c.loop-event-test.false in
    edited_all es i (workspace_view c.loop-event.workspace) done c.loop-event.invariant.0 c.loop-event.invariant.1 c.loop-event.invariant.2 c.loop-event.invariant.3
