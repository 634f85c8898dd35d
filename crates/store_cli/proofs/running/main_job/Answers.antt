use Rattle.std.proofs.Common.{◌≡◌, List, ℕ, true, false, Err, ap, subst, refl}
use Rattle.out_store.proofs.Places.{no_both}
use Rattle.out_store.proofs.Whole.{kept_same}
use Rattle.store_cli.specs.declared.stop.Stop.TheVariants as stop
use Rattle.store_cli.specs.inner.Ending.{Scripted, course, of_read}
use Rattle.store_cli.proofs.Endings.{ends_err, not_long, read_ends, source_ends}
use Rattle.store_cli.proofs.Stopping.{blocked_err}
use Rattle.store_cli.proofs.running.main_job.Goals as goal

pub returns-in_err-script-clause-ends : goal.returns-in_err-script-clause-ends
returns-in_err-script-clause-ends g c =
    let s = c.in_err-script.field-0.0 in
    let left = g.S.Source.left c.args.src.now in
    let rest = g.S.Source.left c.read_all.new.src in
    let reads = g.S.Source.faults c.args.src.now in
    let reads_now = g.S.Source.faults c.read_all.new.src in
    let held = g.T.Store.held c.args.store.now in
    let faults = g.T.Store.faults c.args.store.now in
    ends_err c.from_residual.result (of_read s) _ (course left rest reads reads_now held held faults faults) c.from_residual.ensures.1
    (read_ends s _ left rest reads reads_now held faults (λ e. c.in_err-script.ensures.fault (ap Err e)) (λ e. c.in_err-script.ensures.long (ap Err e)))

pub returns-in_err-script-clause-taken : goal.returns-in_err-script-clause-taken
returns-in_err-script-clause-taken g c not =
    c.in_err-script.ensures.taken (not_long c.from_residual.result c.in_err-script.field-0.0 c.from_residual.ensures.1 not)

pub returns-in_err-script-clause-kept : goal.returns-in_err-script-clause-kept
returns-in_err-script-clause-kept g c = kept_same (g.T.Store.held c.args.store.now) (g.T.Store.held c.args.store.now) refl

pub returns-in_err-script-clause-blocked : goal.returns-in_err-script-clause-blocked
returns-in_err-script-clause-blocked g c =
    blocked_err c.from_residual.result (of_read c.in_err-script.field-0.0) (g.T.Store.held c.args.store.now) c.from_residual.ensures.1

pub returns-clause-ends : goal.returns-clause-ends
returns-clause-ends g c =
    let good : c.is_one.result ≡ true = cc in
    let old = g.T.Store.held c.args.store.now in
    let new = g.T.Store.held c.store_script.new.store in
    let faults = g.T.Store.faults c.args.store.now in
    let faults_now = g.T.Store.faults c.store_script.new.store in
    source_ends (g.S.Source.left c.args.src.now) (g.S.Source.left c.read_all.new.src) c.in_ok-script.script
    c.in_ok-script.ensures.whole.0 c.in_ok-script.ensures.whole.1 c.in_ok-script.ensures.short _ (c.is_one.ensures.0 good)
    (g.S.Source.faults c.args.src.now) (g.S.Source.faults c.read_all.new.src) old new faults faults_now c.store_script.result
    (subst (λ (script : List ℕ). Scripted c.store_script.result script old new faults faults_now) c.as_slice.ensures c.store_script.ensures.scripted)

pub returns-then-not-is_one-clause-ends : goal.returns-then-not-is_one-clause-ends
returns-then-not-is_one-clause-ends g c =
    let bad : c.is_one.result ≡ false = cc in
    λ e. no_both c.is_one.result (c.is_one.ensures.1 e) bad

pub returns-then-not-is_one-clause-kept : goal.returns-then-not-is_one-clause-kept
returns-then-not-is_one-clause-kept g c = kept_same (g.T.Store.held c.args.store.now) (g.T.Store.held c.args.store.now) refl

pub returns-then-not-is_one-clause-blocked : goal.returns-then-not-is_one-clause-blocked
returns-then-not-is_one-clause-blocked g c = blocked_err (Err stop.Usage) stop.Usage (g.T.Store.held c.args.store.now) refl

pub returns-in_err-script-clause-words : goal.returns-in_err-script-clause-words
returns-in_err-script-clause-words g c none = let good : c.is_one.result ≡ true = cc in absurd (none (c.is_one.ensures.0 good))

pub returns-clause-words : goal.returns-clause-words
returns-clause-words g c none = let good : c.is_one.result ≡ true = cc in absurd (none (c.is_one.ensures.0 good))

pub returns-clause-kept : goal.returns-clause-kept
returns-clause-kept g c = c.store_script.ensures.kept

pub returns-clause-blocked : goal.returns-clause-blocked
returns-clause-blocked g c = c.store_script.ensures.blocked
