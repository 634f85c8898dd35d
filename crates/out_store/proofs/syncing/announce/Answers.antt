use Rattle.std.proofs.Common.{◌∙◌, ap, refl}
use Rattle.out_store.specs.Paths.{other_slot}
use Rattle.out_store.specs.inner.Passing.{gated_by}
use Rattle.out_store.proofs.Runs.{after_announced, after_announced_stands, after_free, on_ok_then}
use Rattle.out_store.proofs.syncing.announce.Goals as goal

pub returns-in_err-remove_gate-clause-kept : goal.returns-in_err-remove_gate-clause-kept
returns-in_err-remove_gate-clause-kept g c =
    after_free c.args.gates c.args.manifest.now c.other-next.result (c.other-next.ensures ∙ ap other_slot c.current.ensures) c.both.result (gated_by c.args.gates) c.both.ensures refl
    (g.T.Store.held c.args.store.now) (g.T.Store.held c.remove_gate.new.store) (g.T.Store.held c.remove_gate.new.store) c.in_err-remove_gate.ensures.dropped

pub returns-clause-kept : goal.returns-clause-kept
returns-clause-kept g c =
    after_announced c.args.gates c.args.manifest.now c.other-next.result (c.other-next.ensures ∙ ap other_slot c.current.ensures) c.both.result c.any.result c.both.ensures c.any.ensures
    (g.T.Store.held c.args.store.now) (g.T.Store.held c.remove_gate.new.store) (g.T.Store.held c.pass_gate.new.store) c.in_ok-remove_gate.ensures.dropped c.in_ok-remove_gate.ensures.gone c.pass_gate.ensures.kept

pub returns-clause-stands : goal.returns-clause-stands
returns-clause-stands g c =
    on_ok_then c.pass_gate.result
    (after_announced_stands c.args.gates c.args.manifest.now c.other-next.result (c.other-next.ensures ∙ ap other_slot c.current.ensures) c.both.result c.any.result c.both.ensures c.any.ensures
    (g.T.Store.held c.args.store.now) (g.T.Store.held c.remove_gate.new.store) (g.T.Store.held c.pass_gate.new.store) c.in_ok-remove_gate.ensures.dropped c.in_ok-remove_gate.ensures.gone)
    c.pass_gate.ensures.stands
