use Rattle.std.proofs.Common.{None, Some, ap, refl, sym}
use Rattle.std.specs.Option.{option_map}
use Rattle.out_store.proofs.Brought.{at_place, kept_there, took_elsewhere, took_there}
use Rattle.out_store.proofs.Runs.{on_ok_then, told_either}
use Rattle.out_store.proofs.bringing.bring_place.Goals as goal

pub returns-in-None-clause-elsewhere : goal.returns-in-None-clause-elsewhere
returns-in-None-clause-elsewhere g c =
    told_either c.remove.result (took_elsewhere c.args.place.now (g.T.Store.held c.args.store.now) (g.T.Store.held c.remove.new.self)) (kept_there c.args.place.now (g.T.Store.held c.args.store.now) (g.T.Store.held c.remove.new.self)) c.remove.ensures.removed c.remove.ensures.kept

pub returns-in-None-clause-there : goal.returns-in-None-clause-there
returns-in-None-clause-there g c =
    on_ok_then c.remove.result
    (λ h. at_place c.args.place.now c.args.place.now refl None (option_map (λ b. b.now) c.args.wanted) _ _ (sym (ap (option_map (λ b. b.now)) c.in-None.is)) (took_there c.args.place.now (g.T.Store.held c.args.store.now) (g.T.Store.held c.remove.new.self) h))
    c.remove.ensures.removed

pub returns-in-Some-clause-there : goal.returns-in-Some-clause-there
returns-in-Some-clause-there g c =
    on_ok_then c.write_changed.result
    (at_place c.args.place.now c.args.place.now refl (Some c.in-Some.bytes.now) (option_map (λ b. b.now) c.args.wanted) _ _ (sym (ap (option_map (λ b. b.now)) c.in-Some.is)))
    c.write_changed.ensures.there
