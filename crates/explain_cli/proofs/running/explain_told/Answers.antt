use Rattle.std.proofs.Common.{ℕ, List, Err, ap, refl, subst}
use Rattle.std.specs.Io.KnownBytes.{Appends}
use Rattle.tk_io.specs.Writing.{AppendsPart}
use Rattle.token_cli.specs.declared.stop.Stop.TheVariants as stop
use Rattle.explain_cli.specs.Answered.{IsAnswer}
use Rattle.explain_cli.proofs.Endings.{scripted_err}
use Rattle.explain_cli.proofs.ShortFiles.{files_short}
use Rattle.explain_cli.proofs.Stopping.{scripted_unloaded, scripted_unread}
use Rattle.explain_cli.proofs.running.explain_told.Goals as goal

pub answer-requires : goal.answer-requires
answer-requires g c = files_short c.args.script.now c.in_ok-events.events c.in_ok-files.files c.in_ok-events.ensures.ok c.in_ok-files.ensures.fits c.in_ok-files.ensures.files

pub returns-in_err-events : goal.returns-in_err-events
returns-in_err-events g c =
    let q = c.in_ok-question.question in (
      q,
      c.in_ok-question.ensures.asked,
      scripted_unread c.from_residual-in_err-events.result c.in_err-events.field-0.0 c.args.script.now q (g.K.Sink.written c.args.out.now) (g.K.Sink.faults c.args.out.now) c.from_residual-in_err-events.ensures.1
          (λ at e. c.in_err-events.ensures.bad at (ap Err e)),
    )

pub returns-in_err-files : goal.returns-in_err-files
returns-in_err-files g c =
    let q = c.in_ok-question.question in (
      q,
      c.in_ok-question.ensures.asked,
      scripted_unloaded c.from_residual-in_err-files.result c.in_err-files.field-0.0 c.args.script.now q c.in_ok-events.events (g.K.Sink.written c.args.out.now) (g.K.Sink.faults c.args.out.now)
          c.from_residual-in_err-files.ensures.1 c.in_ok-events.ensures.ok (λ number e. c.in_err-files.ensures.unfit number (ap Err e)),
    )

pub returns-in_err-write_all-in-Ok : goal.returns-in_err-write_all-in-Ok
returns-in_err-write_all-in-Ok g c =
    let old = g.K.Sink.written c.args.out.now in
    let new = g.K.Sink.written c.write_all.new.out in
    let q = c.in_ok-question.question in
    let part = subst (λ (text : List ℕ). AppendsPart old new text) c.as_slice.ensures c.in_err-write_all-in-Ok.ensures.part in
    let is = subst (IsAnswer c.in_ok-files.files q) c.in-Ok.is c.in_ok-text.ensures in (
      q,
      c.in_ok-question.ensures.asked,
      scripted_err c.from_residual-in_err-write_all-in-Ok.result stop.WriteFault c.args.script.now q old new (g.K.Sink.faults c.args.out.now) (g.K.Sink.faults c.write_all.new.out)
          c.from_residual-in_err-write_all-in-Ok.ensures.1
          (c.in_err-write_all-in-Ok.ensures.cause.failed, (c.in_ok-events.events, c.in_ok-events.ensures.ok, (c.in-Ok.text, (c.in_ok-files.ensures.fits, (c.in_ok-files.files, c.in_ok-files.ensures.files, is)), part))),
    )

pub returns-in-Ok : goal.returns-in-Ok
returns-in-Ok g c =
    let old = g.K.Sink.written c.args.out.now in
    let new = g.K.Sink.written c.write_all.new.out in
    let q = c.in_ok-question.question in
    let whole = subst (λ (text : List ℕ). Appends old new text) c.as_slice.ensures c.in_ok-write_all-in-Ok.ensures.whole in
    let is = subst (IsAnswer c.in_ok-files.files q) c.in-Ok.is c.in_ok-text.ensures in (
      q,
      c.in_ok-question.ensures.asked,
      (c.in_ok-events.events, c.in_ok-events.ensures.ok, (c.in-Ok.text, (c.in_ok-files.ensures.fits, (c.in_ok-files.files, c.in_ok-files.ensures.files, is)), whole)),
    )

pub returns : goal.returns
returns g c =
    let q = c.in_ok-question.question in
    let is = subst (IsAnswer c.in_ok-files.files q) c.in-Err.is c.in_ok-text.ensures in (
      q,
      c.in_ok-question.ensures.asked,
      (c.in_ok-events.events, c.in_ok-events.ensures.ok, ((c.in_ok-files.ensures.fits, (c.in_ok-files.files, c.in_ok-files.ensures.files, is)), refl)),
    )
