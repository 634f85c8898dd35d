use Rattle.std.proofs.Common.{◌∙◌, Some, ap, sym}
use Rattle.out_store.proofs.Brought.{found_there, later_elsewhere, later_there, read_elsewhere, wrote_elsewhere, wrote_there}
use Rattle.out_store.proofs.Runs.{on_ok_then, told_either}
use Rattle.out_store.proofs.bringing.write_changed.Goals as goal

pub returns-in_err-found-clause-elsewhere : goal.returns-in_err-found-clause-elsewhere
returns-in_err-found-clause-elsewhere g c = read_elsewhere c.args.place.now (g.T.Store.held c.args.store.now) (g.T.Store.held c.read.new.self) c.in_err-found.ensures.same

pub returns-in-Some-clause-elsewhere : goal.returns-in-Some-clause-elsewhere
returns-in-Some-clause-elsewhere g c =
    later_elsewhere c.args.place.now (g.T.Store.held c.args.store.now) (g.T.Store.held c.read.new.self) (g.T.Store.held c.write_other.new.store) c.in_ok-found.ensures.same c.write_other.ensures.elsewhere

pub returns-in-Some-clause-there : goal.returns-in-Some-clause-there
returns-in-Some-clause-there g c =
    on_ok_then c.write_other.result (found_there c.args.place.now (g.T.Store.held c.args.store.now) (g.T.Store.held c.read.new.self) (g.T.Store.held c.write_other.new.store) _ c.as_slice.result.now c.args.bytes.now c.in_ok-found.ensures.same c.in_ok-found.ensures.found (c.in-Some.is ∙ ap Some (sym c.as_slice.ensures)))
    c.write_other.ensures.there

pub returns-in-None-clause-elsewhere : goal.returns-in-None-clause-elsewhere
returns-in-None-clause-elsewhere g c =
    later_elsewhere c.args.place.now (g.T.Store.held c.args.store.now) (g.T.Store.held c.read.new.self) (g.T.Store.held c.write.new.self) c.in_ok-found.ensures.same
    (told_either c.write.result (wrote_elsewhere c.args.place.now (g.T.Store.held c.read.new.self) (g.T.Store.held c.write.new.self) c.args.bytes.now) (λ h. h) c.write.ensures.written c.write.ensures.torn)

pub returns-in-None-clause-there : goal.returns-in-None-clause-there
returns-in-None-clause-there g c =
    on_ok_then c.write.result
    (λ h. later_there c.args.place.now (g.T.Store.held c.args.store.now) (g.T.Store.held c.read.new.self) (g.T.Store.held c.write.new.self) (Some c.args.bytes.now) c.in_ok-found.ensures.same (wrote_there c.args.place.now (g.T.Store.held c.read.new.self) (g.T.Store.held c.write.new.self) c.args.bytes.now h))
    c.write.ensures.written
