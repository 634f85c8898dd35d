use Rattle.std.proofs.Common.{Ok, Err, ap, sym, refl}
use Rattle.out_store.proofs.Whole.{kept_same}
use Rattle.store_cli.specs.inner.Ending.{of_load, of_script, of_sync}
use Rattle.store_cli.proofs.Stopping.{blocked_err, blocked_ok, scripted_unloaded, scripted_unread, scripted_unstored}
use Rattle.store_cli.proofs.running.store_told.Goals as goal

pub returns-in_err-events-clause-scripted : goal.returns-in_err-events-clause-scripted
returns-in_err-events-clause-scripted g c =
    scripted_unread c.from_residual.result c.in_err-events.field-0.0 c.args.script.now (g.T.Store.held c.args.store.now) (g.T.Store.faults c.args.store.now) c.from_residual.ensures.1
    (λ at e. c.in_err-events.ensures.bad at (ap Err e))

pub returns-in_err-events-clause-kept : goal.returns-in_err-events-clause-kept
returns-in_err-events-clause-kept g c = kept_same (g.T.Store.held c.args.store.now) (g.T.Store.held c.args.store.now) refl

pub returns-in_err-events-clause-blocked : goal.returns-in_err-events-clause-blocked
returns-in_err-events-clause-blocked g c =
    blocked_err c.from_residual.result (of_script c.in_err-events.field-0.0) (g.T.Store.held c.args.store.now) c.from_residual.ensures.1

pub returns-in_err-outputs-clause-scripted : goal.returns-in_err-outputs-clause-scripted
returns-in_err-outputs-clause-scripted g c =
    let held = g.T.Store.held c.args.store.now in
    let faults = g.T.Store.faults c.args.store.now in
    scripted_unloaded c.from_residual-in_err-outputs.result c.in_err-outputs.field-0.0 c.args.script.now c.in_ok-events.events held faults c.from_residual-in_err-outputs.ensures.1 c.in_ok-events.ensures.ok
    (λ number e. c.in_err-outputs.ensures.unfit number (ap Err e))

pub returns-in_err-outputs-clause-kept : goal.returns-in_err-outputs-clause-kept
returns-in_err-outputs-clause-kept g c = kept_same (g.T.Store.held c.args.store.now) (g.T.Store.held c.args.store.now) refl

pub returns-in_err-outputs-clause-blocked : goal.returns-in_err-outputs-clause-blocked
returns-in_err-outputs-clause-blocked g c =
    blocked_err c.from_residual-in_err-outputs.result (of_load c.in_err-outputs.field-0.0) (g.T.Store.held c.args.store.now) c.from_residual-in_err-outputs.ensures.1

pub sync-requires : goal.sync-requires
sync-requires g c = c.in_ok-outputs.ensures.fit

pub returns-in_err-sync-clause-scripted : goal.returns-in_err-sync-clause-scripted
returns-in_err-sync-clause-scripted g c =
    scripted_unstored c.from_residual-in_err-sync.result c.in_err-sync.field-0.0 c.args.script.now (g.T.Store.held c.args.store.now) (g.T.Store.held c.sync.new.store) (g.T.Store.faults c.args.store.now) (g.T.Store.faults c.sync.new.store)
    c.from_residual-in_err-sync.ensures.1 (c.in_ok-events.events, c.in_ok-events.ensures.ok, c.in_ok-outputs.ensures.fits) (λ at e. c.in_err-sync.ensures.bad at (ap Err e)) c.in_err-sync.ensures.cause

pub returns-in_err-sync-clause-kept : goal.returns-in_err-sync-clause-kept
returns-in_err-sync-clause-kept g c = c.in_err-sync.ensures.kept

pub returns-in_err-sync-clause-blocked : goal.returns-in_err-sync-clause-blocked
returns-in_err-sync-clause-blocked g c =
    blocked_err c.from_residual-in_err-sync.result (of_sync c.in_err-sync.field-0.0) (g.T.Store.held c.args.store.now) c.from_residual-in_err-sync.ensures.1

pub returns-clause-scripted : goal.returns-clause-scripted
returns-clause-scripted g c =
    (c.in_ok-events.events, c.in_ok-events.ensures.ok, (c.in_ok-outputs.ensures.fits, (c.in_ok-outputs.outputs, c.in_ok-outputs.ensures.built, sym c.is_refused.ensures, c.in_ok-sync.ensures.exact)))

pub returns-clause-kept : goal.returns-clause-kept
returns-clause-kept g c = c.in_ok-sync.ensures.kept

pub returns-clause-blocked : goal.returns-clause-blocked
returns-clause-blocked g c = blocked_ok (Ok c.is_refused.result) (g.T.Store.held c.args.store.now) c.in_ok-sync.ensures.blocked
