use Rattle.std.proofs.Common.{sym, subst}
use Rattle.token_cli.specs.Course.{course}
use Rattle.token_cli.specs.Headline.{asked_by}
use Rattle.token_cli.specs.Runs.{Runs}
use Rattle.token_cli.specs.declared.status.Status.{Status}
use Rattle.token_cli.proofs.Promises.{promises_of}
use Rattle.token_cli.proofs.gathered.run_gathered.Goals as goal

pub returns-clause-runs : goal.returns-clause-runs
returns-clause-runs g c =
    let job = c.gathered_job-ended in
    let command = asked_by c.args.words.now in
    let (given, kept, ends, unwritten) = job.ensures.ends in
    let t = course (g.S.Source.left c.args.src.now) (g.S.Source.left job.new.src) (g.S.Source.faults c.args.src.now) (g.S.Source.faults job.new.src)
    (g.K.Sink.written c.args.out) given (g.K.Sink.faults c.args.out) (g.K.Sink.faults job.result.1) in
    let told = g.E.Sink.written c.args.err.now in
    let told_now = g.E.Sink.written c.report.new.err in
    let reports = g.E.Sink.faults c.args.err.now in
    let reports_now = g.E.Sink.faults c.report.new.err in (
      given,
      kept,
      subst (λ (s : Status). Runs command t told told_now reports reports_now s) (sym c.status_of.ensures)
          (promises_of c.one_build.ensures.outputs c.work_laws.ensures.one command t told told_now reports reports_now job.result.0 ends
          (λ none. ((job.ensures.words none).0, unwritten none))
          (λ seed size which. let (same, bad, read, long, unfit) = job.ensures.generated seed size which in (bad, read, long, unfit))
          job.ensures.taken c.report.ensures),
    )
