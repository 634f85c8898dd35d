use Rattle.std.proofs.Common.{List, ℕ, subst}
use Rattle.explain_cli.specs.inner.Ending.{Scripted}
use Rattle.explain_cli.proofs.Endings.{source_ends}
use Rattle.explain_cli.proofs.running.main_job.Goals as goal

pub returns-clause-ends : goal.returns-clause-ends
returns-clause-ends g c =
    let old = g.K.Sink.written c.args.out.now in
    let new = g.K.Sink.written c.explain_script.new.out in
    let faults = g.K.Sink.faults c.args.out.now in
    let faults_now = g.K.Sink.faults c.explain_script.new.out in
    let (q, asked, made) = c.explain_script.ensures in
    source_ends (g.S.Source.left c.args.src.now) (g.S.Source.left c.read_all.new.src) c.in_ok-script.script
    c.in_ok-script.ensures.whole.0 c.in_ok-script.ensures.whole.1 c.in_ok-script.ensures.short _ q asked
    (g.S.Source.faults c.args.src.now) (g.S.Source.faults c.read_all.new.src) old new faults faults_now c.explain_script.result
    (subst (λ (script : List ℕ). Scripted c.explain_script.result script q old new faults faults_now) c.as_slice.ensures made)
