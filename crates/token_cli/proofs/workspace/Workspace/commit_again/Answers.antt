use Rattle.std.proofs.Common.{refl}
use Rattle.token_cli.specs.inner.Step.{CommitFails}
use Rattle.token_cli.specs.inner.View.{workspace_view}
use Rattle.token_cli.specs.declared.stop.Stop.{Stop}
use Rattle.token_cli.specs.declared.stop.Stop.TheVariants as stop
use Rattle.token_cli.proofs.Again.{again_cut, again_told}
use Rattle.token_cli.proofs.Stops.{if_err_is}
use Rattle.token_cli.proofs.workspace.Workspace.commit_again.Goals as goal

pub returns-in_err-tell-clause-err : goal.returns-in_err-tell-clause-err
returns-in_err-tell-clause-err g c =
    let told = c.args.telling in
    let s = workspace_view c.args.self.now in
    let old = g.K.Sink.written c.args.out.now in
    let new = g.K.Sink.written c.tell.new.out in
    let first = g.K.Sink.faults c.args.out.now in
    let now = g.K.Sink.faults c.tell.new.out in
    let P : Stop → Type 0 = λ x. CommitFails told x s old new first now in
    if_err_is c.from_residual.result stop.WriteFault P c.from_residual.ensures.1
    (again_cut told s c.work_laws.ensures.same c.requires.kept c.requires.held c.new-none.result c.new-none.ensures old new first now c.in_err-tell.ensures.cause.failed c.in_err-tell.ensures.part)

pub returns-clause-ok : goal.returns-clause-ok
returns-clause-ok g c =
    let s = workspace_view c.args.self.now in
    again_told c.args.telling s c.work_laws.ensures.same c.requires.kept c.requires.held c.new-none.result c.new-none.ensures (g.K.Sink.written c.args.out.now) (g.K.Sink.written c.tell.new.out)
    _ refl c.in_ok-tell.ensures.whole
