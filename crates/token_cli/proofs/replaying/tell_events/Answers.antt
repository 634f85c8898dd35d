use Rattle.std.proofs.Common.{◌∙◌, inl, ap, subst, arith, sym}
use Rattle.std.specs.Io.KnownBytes.{Appends}
use Rattle.tk_io.specs.Writing.{AppendsPart}
use Rattle.edit_script.specs.View.{event_view}
use Rattle.edit_script.specs.Stream.{line_text}
use Rattle.edit_script.specs.declared.line.Line.{Line}
use Rattle.token_cli.specs.Headline.{is_refused}
use Rattle.token_cli.specs.inner.View.{workspace_view}
use Rattle.token_cli.specs.declared.stop.Stop.TheVariants as stop
use Rattle.token_cli.proofs.Places.{all_listed, read_listed}
use Rattle.file_plan.proofs.EventsTaken.{taken_bound}
use Rattle.token_cli.proofs.Edited.{all_edited, edited_first, edited_told}
use Rattle.token_cli.proofs.Standing.{stands_first, stands_more, count_taken}
use Rattle.token_cli.proofs.Stops.{writes_err}
use Rattle.token_cli.specs.inner.Ending.{each_commit}
use Rattle.token_cli.proofs.Endings.{ends_at, ends_whole, ends_cut, some_part}
use Rattle.token_cli.proofs.replaying.tell_events.Goals as goal

pub returns-in_err-write_line-clause-written : goal.returns-in_err-write_line-clause-written
returns-in_err-write_line-clause-written g c =
    let told = c.args.telling in
    let es = c.args.events.now in
    let old = g.K.Sink.written c.args.out.now in
    let new = g.K.Sink.written c.write_line.new.out in
    let Q : Line → Type 0 = λ line. AppendsPart old new (line_text line) in
    writes_err c.from_residual.result stop.WriteFault (each_commit told es) es old new (g.K.Sink.faults c.args.out.now) (g.K.Sink.faults c.write_line.new.out) c.from_residual.ensures.1
    (c.in_err-write_line.ensures.cause.failed, some_part (each_commit told es) es old new (subst Q c.head_line.ensures c.in_err-write_line.ensures.part))

pub loop-event-init : goal.loop-event-init
loop-event-init g c =
    let Q : Line → Type 0 = λ line. Appends (g.K.Sink.written c.args.out.now) (g.K.Sink.written c.write_line.new.out) (line_text line) in
    (edited_first c.args.events.now (workspace_view c.args.workspace.now) c.requires, stands_first c.args.telling c.args.events.now (workspace_view c.args.workspace.now) (g.K.Sink.written c.args.out.now) (g.K.Sink.written c.write_line.new.out) c.requires (subst Q c.head_line.ensures c.in_ok-write_line.ensures.whole), c.in_ok-write_line.ensures.cause.later)

pub take-requires-clause-room : goal.take-requires-clause-room
take-requires-clause-room g c =
    omega (arith, c.loop-event.invariant.0.count, c.loop-event-test.true)

pub take-requires-clause-commits : goal.take-requires-clause-commits
take-requires-clause-commits g c =
    let es = c.args.events.now in
    let i = c.loop-event.event-index in
    omega (arith, c.loop-event.invariant.1.count, count_taken es i, c.loop-event-test.true)

pub take-requires-clause-made : goal.take-requires-clause-made
take-requires-clause-made g c = taken_bound c.args.events.now c.loop-event.event-index c.loop-event.workspace.engine.files c.loop-event.workspace.made c.loop-event.invariant.0.events

pub returns-in_err-take-clause-written : goal.returns-in_err-take-clause-written
returns-in_err-take-clause-written g c =
    let told = c.args.telling in
    let es = c.args.events.now in
    let i = c.loop-event.event-index in
    let old = g.K.Sink.written c.args.out.now in
    let now = g.K.Sink.written c.loop-event.out in
    let new = g.K.Sink.written c.take.new.out in
    let why = c.in_err-take.field-0.0 in
    writes_err c.from_residual-in_err-take.result why (each_commit told es) es old new (g.K.Sink.faults c.args.out.now) (g.K.Sink.faults c.take.new.out) c.from_residual-in_err-take.ensures.1
    (ends_at told why es i _ (workspace_view c.loop-event.workspace) old now new (g.K.Sink.faults c.args.out.now) (g.K.Sink.faults c.loop-event.out) (g.K.Sink.faults c.take.new.out) (read_listed c.as_slice-event-items.result.now event_view es i _ c.as_slice-event-items.ensures c.loop-event-test.true) c.loop-event.invariant.0 c.loop-event.invariant.1 c.loop-event.invariant.2 c.in_err-take.ensures.err)

pub loop-event-preserved : goal.loop-event-preserved
loop-event-preserved g c =
    let es = c.args.events.now in
    let i = c.loop-event.event-index in
    let s = workspace_view c.loop-event.workspace in
    let t = workspace_view c.take.new.self in
    let at = read_listed c.as_slice-event-items.result.now event_view es i _ c.as_slice-event-items.ensures c.loop-event-test.true in (
      edited_told c.args.telling es i _ s t (g.K.Sink.written c.loop-event.out) (g.K.Sink.written c.take.new.out) at c.loop-event.invariant.0 c.in_ok-take.ensures.ok,
      stands_more c.args.telling es i _ s t (g.K.Sink.written c.args.out.now) (g.K.Sink.written c.loop-event.out) (g.K.Sink.written c.take.new.out) at c.loop-event.invariant.0 c.loop-event.invariant.1 c.in_ok-take.ensures.ok,
      omega (arith, c.loop-event.invariant.2, c.in_ok-take.ensures.later),
    )

pub returns-in_err-write_line-2-clause-written : goal.returns-in_err-write_line-2-clause-written
returns-in_err-write_line-2-clause-written g c =
    let told = c.args.telling in
    let es = c.args.events.now in
    let old = g.K.Sink.written c.args.out.now in
    let new = g.K.Sink.written c.write_line-2.new.out in
    let done = all_listed c.as_slice-event-items.result.now event_view es c.loop-event.event-index c.as_slice-event-items.ensures c.loop-event-test.false in
    writes_err c.from_residual-in_err-write_line-2.result stop.WriteFault (each_commit told es) es old new (g.K.Sink.faults c.args.out.now) (g.K.Sink.faults c.write_line-2.new.out) c.from_residual-in_err-write_line-2.ensures.1 (
      omega (arith, c.loop-event.invariant.2, c.in_err-write_line-2.ensures.cause.failed),
      inl (
        all_edited es c.loop-event.event-index (workspace_view c.loop-event.workspace) done c.loop-event.invariant.0,
        ends_cut told es c.loop-event.event-index (workspace_view c.loop-event.workspace) old (g.K.Sink.written c.loop-event.out) new done c.loop-event.invariant.1 c.in_err-write_line-2.ensures.part,
      ),
    )

pub returns-clause-written : goal.returns-clause-written
returns-clause-written g c =
    let told = c.args.telling in
    let es = c.args.events.now in
    let done = all_listed c.as_slice-event-items.result.now event_view es c.loop-event.event-index c.as_slice-event-items.ensures c.loop-event-test.false in (
      all_edited es c.loop-event.event-index (workspace_view c.loop-event.workspace) done c.loop-event.invariant.0,
      ends_whole told es c.loop-event.event-index (workspace_view c.loop-event.workspace) (g.K.Sink.written c.args.out.now) (g.K.Sink.written c.loop-event.out) (g.K.Sink.written c.write_line-2.new.out) c.is_refused.result done c.loop-event.invariant.1 c.in_ok-write_line-2.ensures.whole
          (ap is_refused (sym c.held.ensures) ∙ sym c.is_refused.ensures),
    )
