use Rattle.std.proofs.Common.{◌∙◌, sym}
use Rattle.std.proofs.lemmas.Slice.Eq.{bytes_eq-Decides}
use Rattle.out_store.proofs.Brought.{found_over, found_same, same_elsewhere, wrote_elsewhere}
use Rattle.out_store.proofs.Runs.{on_ok_then, told_either}
use Rattle.out_store.proofs.bringing.write_other.Goals as goal

pub returns-then-eq-clause-elsewhere : goal.returns-then-eq-clause-elsewhere
returns-then-eq-clause-elsewhere g c = same_elsewhere c.args.place.now (g.T.Store.held c.args.store.now)

pub returns-then-eq-clause-there : goal.returns-then-eq-clause-there
returns-then-eq-clause-there g c =
    found_same c.args.place.now (g.T.Store.held c.args.store.now) c.args.found.now c.args.bytes.now ((bytes_eq-Decides c.args.found.now c.args.bytes.now).0 (sym c.eq.ensures ∙ c.if-eq.true))

pub returns-clause-elsewhere : goal.returns-clause-elsewhere
returns-clause-elsewhere g c =
    told_either c.write.result (wrote_elsewhere c.args.place.now (g.T.Store.held c.args.store.now) (g.T.Store.held c.write.new.self) c.args.bytes.now) (λ h. h) c.write.ensures.written c.write.ensures.torn

pub returns-clause-there : goal.returns-clause-there
returns-clause-there g c =
    on_ok_then c.write.result (found_over c.args.place.now (g.T.Store.held c.args.store.now) (g.T.Store.held c.write.new.self) c.args.found.now c.args.bytes.now) c.write.ensures.written
