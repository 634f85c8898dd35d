use Rattle.std.proofs.Common.{◌∙◌, inl, length, ap, arith, sym}
use Rattle.edit_script.specs.Files.{as_one_commit}
use Rattle.token_cli.specs.Headline.{is_refused}
use Rattle.token_cli.specs.inner.Ending.{one_commit}
use Rattle.token_cli.specs.inner.View.{workspace_view}
use Rattle.token_cli.specs.declared.stop.Stop.TheVariants as stop
use Rattle.token_cli.specs.declared.telling.Telling.TheVariants.{Records}
use Rattle.token_cli.proofs.Endings.{all_end, end_cut, ends_cut, ends_whole, some_part}
use Rattle.token_cli.proofs.Standing.{stands_end}
use Rattle.token_cli.proofs.Stops.{writes_err}
use Rattle.token_cli.proofs.replaying.tell_end.Goals as goal

pub returns-in_err-write_line-clause-written : goal.returns-in_err-write_line-clause-written
returns-in_err-write_line-clause-written g c =
    let es = c.args.events.now in
    let old = g.K.Sink.written c.args.out.now in
    let new = g.K.Sink.written c.write_line.new.out in
    writes_err c.from_residual.result stop.WriteFault (one_commit es) es old new (g.K.Sink.faults c.args.out.now) (g.K.Sink.faults c.write_line.new.out) c.from_residual.ensures.1
    (c.in_err-write_line.ensures.cause.failed, some_part (one_commit es) es old new c.in_err-write_line.ensures.part)

pub returns-in_err-edit_all-clause-written : goal.returns-in_err-edit_all-clause-written
returns-in_err-edit_all-clause-written g c =
    let es = c.args.events.now in
    let old = g.K.Sink.written c.args.out.now in
    let new = g.K.Sink.written c.write_line.new.out in
    let first = g.K.Sink.faults c.args.out.now in
    let after = g.K.Sink.faults c.write_line.new.out in
    let why = c.in_err-edit_all.field-0.0 in
    writes_err c.from_residual-in_err-edit_all.result why (one_commit es) es old new first after c.from_residual-in_err-edit_all.ensures.1
    (all_end why es old new first after c.in_ok-write_line.ensures.whole c.in_err-edit_all.ensures.err)

pub commit-requires : goal.commit-requires
commit-requires g c = omega (arith, c.in_ok-edit_all.ensures.ok.commits)

pub returns-in_err-commit-clause-written : goal.returns-in_err-commit-clause-written
returns-in_err-commit-clause-written g c =
    let es = c.args.events.now in
    let old = g.K.Sink.written c.args.out.now in
    let now = g.K.Sink.written c.write_line.new.out in
    let new = g.K.Sink.written c.commit.new.out in
    let first = g.K.Sink.faults c.args.out.now in
    let before = g.K.Sink.faults c.write_line.new.out in
    let after = g.K.Sink.faults c.commit.new.out in
    let why = c.in_err-commit.field-0.0 in
    writes_err c.from_residual-in_err-commit.result why (one_commit es) es old new first after c.from_residual-in_err-commit.ensures.1
    (end_cut why es (workspace_view c.edit_all.new.workspace) old now new first before after c.in_ok-edit_all.ensures.ok c.in_ok-write_line.ensures.whole c.in_ok-write_line.ensures.cause.later c.in_err-commit.ensures.err)

pub returns-in_err-write_line-2-clause-written : goal.returns-in_err-write_line-2-clause-written
returns-in_err-write_line-2-clause-written g c =
    let es = c.args.events.now in
    let fs = as_one_commit es in
    let old = g.K.Sink.written c.args.out.now in
    let now = g.K.Sink.written c.write_line.new.out in
    let told = g.K.Sink.written c.commit.new.out in
    let new = g.K.Sink.written c.write_line-2.new.out in
    let edited = c.in_ok-edit_all.ensures.ok in
    let t = workspace_view c.commit.new.self in
    let stands = stands_end es (workspace_view c.edit_all.new.workspace) t old now told edited c.in_ok-write_line.ensures.whole c.in_ok-commit.ensures.ok in
    writes_err c.from_residual-in_err-write_line-2.result stop.WriteFault (one_commit es) es old new (g.K.Sink.faults c.args.out.now) (g.K.Sink.faults c.write_line-2.new.out) c.from_residual-in_err-write_line-2.ensures.1 (
      omega (arith, c.in_ok-write_line.ensures.cause.later, c.in_ok-commit.ensures.later, c.in_err-write_line-2.ensures.cause.failed),
      inl (edited.fits, ends_cut Records fs (length fs) t old told new (omega arith) stands c.in_err-write_line-2.ensures.part),
    )

pub returns-clause-written : goal.returns-clause-written
returns-clause-written g c =
    let es = c.args.events.now in
    let fs = as_one_commit es in
    let old = g.K.Sink.written c.args.out.now in
    let now = g.K.Sink.written c.write_line.new.out in
    let told = g.K.Sink.written c.commit.new.out in
    let edited = c.in_ok-edit_all.ensures.ok in
    let t = workspace_view c.commit.new.self in
    let stands = stands_end es (workspace_view c.edit_all.new.workspace) t old now told edited c.in_ok-write_line.ensures.whole c.in_ok-commit.ensures.ok in
    (edited.fits, ends_whole Records fs (length fs) t old told (g.K.Sink.written c.write_line-2.new.out) c.is_refused.result (omega arith) stands c.in_ok-write_line-2.ensures.whole (ap is_refused (sym c.held.ensures) ∙ sym c.is_refused.ensures))
