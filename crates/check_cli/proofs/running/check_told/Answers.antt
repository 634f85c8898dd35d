use Rattle.std.proofs.Common.{◌∙◌, ℕ, List, Err, ap, refl, subst}
use Rattle.std.specs.Io.KnownBytes.{Appends}
use Rattle.tk_io.specs.Writing.{AppendsPart}
use Rattle.token_cli.specs.declared.stop.Stop.TheVariants as stop
use Rattle.check_cli.proofs.Endings.{scripted_err}
use Rattle.check_cli.proofs.Stopping.{broken_is, scripted_unloaded, scripted_unread}
use Rattle.check_cli.proofs.running.check_told.Goals as goal

pub returns-in_err-events : goal.returns-in_err-events
returns-in_err-events g c =
    scripted_unread c.from_residual.result c.in_err-events.field-0.0 c.args.script.now (g.K.Sink.written c.args.out.now) (g.K.Sink.faults c.args.out.now) c.from_residual.ensures.1
    (λ at e. c.in_err-events.ensures.bad at (ap Err e))

pub returns-in_err-told : goal.returns-in_err-told
returns-in_err-told g c =
    scripted_unloaded c.from_residual-in_err-told.result c.in_err-told.field-0.0 c.args.script.now c.in_ok-events.events (g.K.Sink.written c.args.out.now) (g.K.Sink.faults c.args.out.now) c.from_residual-in_err-told.ensures.1 c.in_ok-events.ensures.ok
    (λ number e. c.in_err-told.ensures.unfit number (ap Err e))

pub returns-in_err-text : goal.returns-in_err-text
returns-in_err-text g c =
    let held = g.K.Sink.written c.args.out.now in
    let faults = g.K.Sink.faults c.args.out.now in
    scripted_err c.from_residual-in_err-text.result stop.NoMemory c.args.script.now held held faults faults c.from_residual-in_err-text.ensures.1 refl

pub returns-in_err-write_all : goal.returns-in_err-write_all
returns-in_err-write_all g c =
    let old = g.K.Sink.written c.args.out.now in
    let new = g.K.Sink.written c.write_all.new.out in
    let part = subst (λ (text : List ℕ). AppendsPart old new text) (c.as_slice.ensures ∙ c.in_ok-text.ensures) c.in_err-write_all.ensures.part in
    scripted_err c.from_residual-in_err-write_all.result stop.WriteFault c.args.script.now old new (g.K.Sink.faults c.args.out.now) (g.K.Sink.faults c.write_all.new.out)
    c.from_residual-in_err-write_all.ensures.1
    (c.in_err-write_all.ensures.cause.failed, (c.in_ok-events.events, c.in_ok-events.ensures.ok, (c.in_ok-told.told, c.in_ok-told.ensures.told, part)))

pub returns : goal.returns
returns g c =
    let old = g.K.Sink.written c.args.out.now in
    let new = g.K.Sink.written c.write_all.new.out in
    let whole = subst (λ (text : List ℕ). Appends old new text) (c.as_slice.ensures ∙ c.in_ok-text.ensures) c.in_ok-write_all.ensures.whole in
    (c.in_ok-events.events, c.in_ok-events.ensures.ok, (c.in_ok-told.told, c.in_ok-told.ensures.told, broken_is c.in_ok-told.told c.is_empty.result c.is_empty.ensures, whole))
