use Rattle.std.proofs.Common.{◌≡◌, List, ℕ, true, false, Err, ap, subst}
use Rattle.token_cli.specs.inner.Causes.{of_read}
use Rattle.theme_cli.specs.inner.Ending.{Scripted, course}
use Rattle.theme_cli.proofs.Endings.{ends_err, not_long, read_ends, source_ends}
use Rattle.theme_cli.proofs.running.main_job.Goals as goal

pub returns-in_err-script-clause-ends : goal.returns-in_err-script-clause-ends
returns-in_err-script-clause-ends g c =
    let s = c.in_err-script.field-0.0 in
    let left = g.S.Source.left c.args.src.now in
    let rest = g.S.Source.left c.read_all.new.src in
    let reads = g.S.Source.faults c.args.src.now in
    let reads_now = g.S.Source.faults c.read_all.new.src in
    let held = g.K.Sink.written c.args.out.now in
    let faults = g.K.Sink.faults c.args.out.now in
    ends_err c.from_residual.result (of_read s) _ (course left rest reads reads_now held held faults faults) c.from_residual.ensures.1
    (read_ends s _ left rest reads reads_now held faults (λ e. c.in_err-script.ensures.fault (ap Err e)) (λ e. c.in_err-script.ensures.long (ap Err e)))

pub returns-in_err-script-clause-taken : goal.returns-in_err-script-clause-taken
returns-in_err-script-clause-taken g c not =
    c.in_err-script.ensures.taken (not_long c.from_residual.result c.in_err-script.field-0.0 c.from_residual.ensures.1 not)

pub returns-clause-ends : goal.returns-clause-ends
returns-clause-ends g c =
    let good : c.are_none.result ≡ true = cc in
    let old = g.K.Sink.written c.args.out.now in
    let new = g.K.Sink.written c.themes_script.new.out in
    let faults = g.K.Sink.faults c.args.out.now in
    let faults_now = g.K.Sink.faults c.themes_script.new.out in
    source_ends (g.S.Source.left c.args.src.now) (g.S.Source.left c.read_all.new.src) c.in_ok-script.script
    c.in_ok-script.ensures.whole.0 c.in_ok-script.ensures.whole.1 c.in_ok-script.ensures.short _ (c.are_none.ensures.0 good)
    (g.S.Source.faults c.args.src.now) (g.S.Source.faults c.read_all.new.src) old new faults faults_now c.themes_script.result
    (subst (λ (script : List ℕ). Scripted c.themes_script.result script old new faults faults_now) c.as_slice.ensures c.themes_script.ensures)

pub returns-then-not-are_none-clause-ends : goal.returns-then-not-are_none-clause-ends
returns-then-not-are_none-clause-ends g c e =
    let bad : c.are_none.result ≡ false = cc in
    let good : c.are_none.result ≡ true = c.are_none.ensures.1 e in
    absurd (cc)

pub returns-in_err-script-clause-words : goal.returns-in_err-script-clause-words
returns-in_err-script-clause-words g c none = let good : c.are_none.result ≡ true = cc in absurd (none (c.are_none.ensures.0 good))

pub returns-clause-words : goal.returns-clause-words
returns-clause-words g c none = let good : c.are_none.result ≡ true = cc in absurd (none (c.are_none.ensures.0 good))
