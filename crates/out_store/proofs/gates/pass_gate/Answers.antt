use Rattle.out_store.proofs.Runs.{after_gate_torn, after_outputs, after_passed, after_stands, after_torn, on_ok, on_ok_then}
use Rattle.out_store.proofs.gates.pass_gate.Goals as goal

pub returns-in_err-write-clause-kept : goal.returns-in_err-write-clause-kept
returns-in_err-write-clause-kept g c =
    after_torn c.args.slot c.args.manifest.now c.args.other_stands c.manifest.result.now c.manifest.ensures
    (g.T.Store.held c.args.store.now) (g.T.Store.held c.write.new.self) c.in_err-write.ensures.torn

pub returns-in_err-write-2-clause-kept : goal.returns-in_err-write-2-clause-kept
returns-in_err-write-2-clause-kept g c =
    after_gate_torn c.args.slot c.args.manifest.now c.args.other_stands c.manifest.result.now c.manifest.ensures
    (g.T.Store.held c.args.store.now) (g.T.Store.held c.write.new.self) c.gate.result.now c.gate.ensures (g.T.Store.held c.write-2.new.self)
    c.in_ok-write.ensures.written c.in_err-write-2.ensures.torn

pub returns-clause-kept : goal.returns-clause-kept
returns-clause-kept g c =
    after_passed c.args.slot c.args.manifest.now c.args.other_stands c.manifest.result.now c.manifest.ensures
    (g.T.Store.held c.args.store.now) (g.T.Store.held c.write.new.self) c.gate.result.now c.gate.ensures (g.T.Store.held c.write-2.new.self)
    c.in_ok-write.ensures.written c.in_ok-write-2.ensures.written c.other.result c.other.ensures (g.T.Store.held c.remove_gate.new.store) c.remove_gate.ensures.dropped

pub returns-clause-stands : goal.returns-clause-stands
returns-clause-stands g c =
    on_ok_then c.remove_gate.result (after_stands c.args.slot c.args.manifest.now c.args.other_stands c.manifest.result.now c.manifest.ensures
    (g.T.Store.held c.args.store.now) (g.T.Store.held c.write.new.self) c.gate.result.now c.gate.ensures (g.T.Store.held c.write-2.new.self)
    c.in_ok-write.ensures.written c.in_ok-write-2.ensures.written c.other.result c.other.ensures (g.T.Store.held c.remove_gate.new.store) c.remove_gate.ensures.dropped)
    c.remove_gate.ensures.gone

pub returns-clause-outputs : goal.returns-clause-outputs
returns-clause-outputs g c =
    on_ok c.remove_gate.result (after_outputs c.args.slot c.args.manifest.now c.args.other_stands c.manifest.result.now c.manifest.ensures
    (g.T.Store.held c.args.store.now) (g.T.Store.held c.write.new.self) c.gate.result.now c.gate.ensures (g.T.Store.held c.write-2.new.self)
    c.in_ok-write.ensures.written c.in_ok-write-2.ensures.written c.other.result c.other.ensures (g.T.Store.held c.remove_gate.new.store) c.remove_gate.ensures.dropped)
