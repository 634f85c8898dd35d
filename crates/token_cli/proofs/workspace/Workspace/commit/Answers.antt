use Rattle.std.proofs.Common.{◌+◌, refl}
use Rattle.rebuild_core.specs.Engine.{counts_view}
use Rattle.token_cli.specs.inner.Step.{CommitFails}
use Rattle.token_cli.specs.inner.View.{workspace_view}
use Rattle.token_cli.specs.declared.stop.Stop.{Stop}
use Rattle.token_cli.proofs.Commits.{commit_cut, commit_told}
use Rattle.token_cli.proofs.Stops.{if_err_is}
use Rattle.token_cli.proofs.workspace.Workspace.commit.Goals as goal

pub returns-in_err-write_commit-clause-err : goal.returns-in_err-write_commit-clause-err
returns-in_err-write_commit-clause-err g c =
    let told = c.args.telling in
    let s = workspace_view c.args.self.now in
    let done = c.in_ok-done.done in
    let old = g.K.Sink.written c.args.out.now in
    let new = g.K.Sink.written c.write_commit.new.out in
    let first = g.K.Sink.faults c.args.out.now in
    let now = g.K.Sink.faults c.write_commit.new.out in
    let why = c.in_err-write_commit.field-0.0 in
    let P : Stop → Type 0 = λ x. CommitFails told x s old new first now in
    if_err_is c.from_residual-in_err-write_commit.result why P c.from_residual-in_err-write_commit.ensures.1
    (commit_cut told s c.commit_files.new.engine (s.commits + 1) (counts_view done.counts) done.before c.held.result.now old new c.in_ok-done.ensures.held c.in_ok-done.ensures.counts c.in_ok-done.ensures.before c.held.ensures refl why first now c.in_err-write_commit.ensures.err)

pub returns-clause-ok : goal.returns-clause-ok
returns-clause-ok g c =
    let told = c.args.telling in
    let s = workspace_view c.args.self.now in
    let done = c.in_ok-done.done in
    let old = g.K.Sink.written c.args.out.now in
    let new = g.K.Sink.written c.write_commit.new.out in
    commit_told told s c.commit_files.new.engine (s.commits + 1) (counts_view done.counts) done.before c.held.result.now old new c.in_ok-done.ensures.held c.in_ok-done.ensures.counts c.in_ok-done.ensures.before c.held.ensures refl c.in_ok-done.ensures.kept c.in_ok-write_commit.ensures.ok
