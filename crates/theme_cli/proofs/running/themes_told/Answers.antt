use Rattle.std.proofs.Common.{Err, ap}
use Rattle.theme_cli.proofs.Stopping.{scripted_unloaded, scripted_unread, scripted_unwritten, scripted_written}
use Rattle.theme_cli.proofs.running.themes_told.Goals as goal

pub returns-in_err-events : goal.returns-in_err-events
returns-in_err-events g c =
    scripted_unread c.from_residual.result c.in_err-events.field-0.0 c.args.script.now (g.K.Sink.written c.args.out.now) (g.K.Sink.faults c.args.out.now) c.from_residual.ensures.1
    (λ at e. c.in_err-events.ensures.bad at (ap Err e))

pub returns-in_err-answer : goal.returns-in_err-answer
returns-in_err-answer g c =
    scripted_unloaded c.from_residual-in_err-answer.result c.in_err-answer.field-0.0 c.args.script.now c.in_ok-events.events (g.K.Sink.written c.args.out.now) (g.K.Sink.faults c.args.out.now) c.from_residual-in_err-answer.ensures.1 c.in_ok-events.ensures.ok
    (λ number e. c.in_err-answer.ensures.unfit number (ap Err e))

pub returns-in_err-write_sheet : goal.returns-in_err-write_sheet
returns-in_err-write_sheet g c =
    scripted_unwritten c.from_residual-in_err-write_sheet.result c.in_ok-answer.answer c.args.script.now c.in_ok-events.events (g.K.Sink.written c.args.out.now) (g.K.Sink.written c.write_sheet.new.out) (g.K.Sink.faults c.args.out.now) (g.K.Sink.faults c.write_sheet.new.out)
    c.from_residual-in_err-write_sheet.ensures.1 c.in_ok-events.ensures.ok c.in_ok-answer.ensures.answer c.in_err-write_sheet.ensures.part c.in_err-write_sheet.ensures.cause.failed

pub returns : goal.returns
returns g c =
    scripted_written c.in_ok-answer.answer c.args.script.now c.in_ok-events.events (g.K.Sink.written c.args.out.now) (g.K.Sink.written c.write_sheet.new.out) (g.K.Sink.faults c.args.out.now) (g.K.Sink.faults c.write_sheet.new.out)
    c.in_ok-events.ensures.ok c.in_ok-answer.ensures.answer c.in_ok-write_sheet.ensures.whole
