use Rattle.out_store.proofs.Effects.{gate_gone, gate_taken, gate_untouched, untaken}
use Rattle.out_store.proofs.gates.remove_gate.Goals as goal

pub returns-then-stands-clause-dropped : goal.returns-then-stands-clause-dropped
returns-then-stands-clause-dropped g c =
    gate_taken c.args.slot c.gate.result.now c.gate.ensures (g.T.Store.held c.args.store.now) (g.T.Store.held c.remove.new.self) c.remove.result c.remove.ensures.removed c.remove.ensures.kept

pub returns-then-stands-clause-gone : goal.returns-then-stands-clause-gone
returns-then-stands-clause-gone g c =
    gate_gone c.args.slot c.gate.result.now c.gate.ensures (g.T.Store.held c.args.store.now) (g.T.Store.held c.remove.new.self) c.args.stands c.remove.result c.remove.ensures.removed

pub returns-clause-dropped : goal.returns-clause-dropped
returns-clause-dropped g c = gate_untouched c.args.slot (g.T.Store.held c.args.store.now)

pub returns-clause-gone : goal.returns-clause-gone
returns-clause-gone g c = untaken c.args.slot c.args.stands c.if-stands.false (g.T.Store.held c.args.store.now)
