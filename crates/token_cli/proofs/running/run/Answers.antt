use Rattle.std.proofs.Common.{sym, subst}
use Rattle.token_cli.specs.Course.{course}
use Rattle.token_cli.specs.Headline.{asked_by}
use Rattle.token_cli.specs.Runs.{Runs}
use Rattle.token_cli.specs.declared.status.Status.{Status}
use Rattle.token_cli.proofs.Promises.{promises_of}
use Rattle.token_cli.proofs.running.run.Goals as goal

pub returns-clause-runs : goal.returns-clause-runs
returns-clause-runs g c =
    let job = c.main_job-ended in
    let command = asked_by c.args.words.now in
    let t = course (g.S.Source.left c.args.src.now) (g.S.Source.left job.new.src) (g.S.Source.faults c.args.src.now) (g.S.Source.faults job.new.src)
    (g.K.Sink.written c.args.out.now) (g.K.Sink.written job.new.out) (g.K.Sink.faults c.args.out.now) (g.K.Sink.faults job.new.out) in
    let told = g.E.Sink.written c.args.err.now in
    let told_now = g.E.Sink.written c.report.new.err in
    let reports = g.E.Sink.faults c.args.err.now in
    let reports_now = g.E.Sink.faults c.report.new.err in
    subst (λ (s : Status). Runs command t told told_now reports reports_now s) (sym c.status_of.ensures)
    (promises_of c.one_build.ensures.outputs c.work_laws.ensures.one command t told told_now reports reports_now job.result job.ensures.ends
    (λ none. let (stopped, unread, unwritten) = job.ensures.words none in (stopped, unwritten))
    (λ seed size which. let (same, bad, read, long, unfit) = job.ensures.generated seed size which in (bad, read, long, unfit))
    job.ensures.taken c.report.ensures)

pub returns-clause-unread : goal.returns-clause-unread
returns-clause-unread g c =
    let job = c.main_job-ended in
    (λ none. (job.ensures.words none).1, λ seed size which. (job.ensures.generated seed size which).0)
