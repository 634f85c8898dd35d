use Rattle.std.proofs.Common.{◌≡◌, ℕ, List, Some, sym, subst}
use Rattle.std.specs.FinMap as map
use Rattle.std.specs.Io.KnownBytes.{Appends}
use Rattle.std.specs.List.{slice_get}
use Rattle.tk_io.specs.Writing.{AppendsPart}
use Rattle.edit_script.specs.View.{Lined}
use Rattle.edit_script.proofs.Written.{line_carried}
use Rattle.rebuild_core.specs.Engine.{counts_view}
use Rattle.token_cli.specs.inner.Step.{Cuts}
use Rattle.token_cli.specs.declared.stop.Stop.{Stop}
use Rattle.token_cli.specs.declared.stop.Stop.TheVariants as stop
use Rattle.token_cli.proofs.Stops.{if_err_is}
use Rattle.token_cli.proofs.Told.{told_of_changes}
use Rattle.token_cli.proofs.workspace.write_commit.Goals as goal

pub returns-in_err-tell-clause-err : goal.returns-in_err-tell-clause-err
returns-in_err-tell-clause-err g c =
    let told = c.args.telling in
    let k = c.args.number in
    let work = counts_view c.args.done.now.counts in
    let delta = c.in_ok-changes.ensures in
    let old = g.K.Sink.written c.args.out.now in
    let new = g.K.Sink.written c.tell.new.out in
    let P : Stop → Type 0 = λ why. Cuts told why c.args.done.now.before c.args.held.now k work old new (g.K.Sink.faults c.args.out.now) (g.K.Sink.faults c.tell.new.out) in
    let Q : List ℕ → Type 0 = λ text. AppendsPart old new text in
    if_err_is c.from_residual-in_err-tell.result stop.WriteFault P c.from_residual-in_err-tell.ensures.1
    (c.in_err-tell.ensures.cause.failed, (delta.0, delta.1, subst Q (sym (told_of_changes told k work delta.0 c.in_ok-changes.changes delta.2)) c.in_err-tell.ensures.part))

pub returns-clause-ok : goal.returns-clause-ok
returns-clause-ok g c =
    let told = c.args.telling in
    let k = c.args.number in
    let work = counts_view c.args.done.now.counts in
    let delta = c.in_ok-changes.ensures in
    let Q : List ℕ → Type 0 = λ text. Appends (g.K.Sink.written c.args.out.now) (g.K.Sink.written c.tell.new.out) text in
    (delta.0, delta.1, subst Q (sym (told_of_changes told k work delta.0 c.in_ok-changes.changes delta.2)) c.in_ok-tell.ensures.whole)

pub tell-requires : goal.tell-requires
tell-requires g c i change at =
    let delta = c.in_ok-changes.ensures in
    let P : List Lined → Type 0 = λ l. slice_get l i ≡ Some change in
    line_carried (map.entries delta.0) i change (subst P delta.2 at)
