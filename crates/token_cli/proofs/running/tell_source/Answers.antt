use Rattle.std.proofs.Common.{List, ℕ, Some, Err, ap, subst}
use Rattle.token_cli.specs.inner.Causes.{of_read}
use Rattle.token_cli.specs.Course.{course}
use Rattle.token_cli.specs.inner.Ending.{Scripted}
use Rattle.token_cli.proofs.JobEnds.{ends_err, read_ends, source_ends}
use Rattle.token_cli.proofs.ScriptsRead.{not_long}
use Rattle.token_cli.proofs.running.tell_source.Goals as goal

pub returns-in_err-script-clause-ends : goal.returns-in_err-script-clause-ends
returns-in_err-script-clause-ends g c =
    let s = c.in_err-script.field-0.0 in
    let left = g.S.Source.left c.args.src.now in
    let rest = g.S.Source.left c.read_all.new.src in
    let reads = g.S.Source.faults c.args.src.now in
    let reads_now = g.S.Source.faults c.read_all.new.src in
    let written = g.K.Sink.written c.args.out.now in
    let writes = g.K.Sink.faults c.args.out.now in
    ends_err c.from_residual.result (of_read s) (Some c.args.command) (course left rest reads reads_now written written writes writes) c.from_residual.ensures.1
    (read_ends s (Some c.args.command) left rest reads reads_now written writes (λ e. c.in_err-script.ensures.fault (ap Err e)) (λ e. c.in_err-script.ensures.long (ap Err e)))

pub returns-in_err-script-clause-taken : goal.returns-in_err-script-clause-taken
returns-in_err-script-clause-taken g c not =
    c.in_err-script.ensures.taken (not_long c.from_residual.result c.in_err-script.field-0.0 c.from_residual.ensures.1 not)

pub returns-clause-ends : goal.returns-clause-ends
returns-clause-ends g c =
    let old = g.K.Sink.written c.args.out.now in
    let new = g.K.Sink.written c.write_script.new.out in
    let writes = g.K.Sink.faults c.args.out.now in
    let writes_now = g.K.Sink.faults c.write_script.new.out in
    source_ends c.args.command c.requires (g.S.Source.left c.args.src.now) (g.S.Source.left c.read_all.new.src) c.in_ok-script.script
    c.in_ok-script.ensures.whole.0 c.in_ok-script.ensures.whole.1 c.in_ok-script.ensures.short
    (g.S.Source.faults c.args.src.now) (g.S.Source.faults c.read_all.new.src) old new writes writes_now c.write_script.result
    (subst (λ (script : List ℕ). Scripted c.write_script.result c.args.command script old new writes writes_now) c.as_slice.ensures c.write_script.ensures)
