use Rattle.std.proofs.Common.{◌∙◌}
use Rattle.out_store.specs.Paths.{out_place}
use Rattle.out_store.proofs.Brought.{at_place, elsewhere_place, same_elsewhere}
use Rattle.out_store.proofs.Runs.{on_ok_then}
use Rattle.out_store.proofs.bringing.bring.Goals as goal

pub returns-in_err-place-clause-elsewhere : goal.returns-in_err-place-clause-elsewhere
returns-in_err-place-clause-elsewhere g c = same_elsewhere (out_place c.args.path.now) (g.T.Store.held c.args.store.now)

pub returns-clause-elsewhere : goal.returns-clause-elsewhere
returns-clause-elsewhere g c =
    elsewhere_place c.as_str.result.now (out_place c.args.path.now) (c.as_str.ensures.value ∙ c.in_ok-place.ensures) _ _ c.bring_place.ensures.elsewhere

pub returns-clause-there : goal.returns-clause-there
returns-clause-there g c =
    on_ok_then c.bring_place.result (at_place c.as_str.result.now (out_place c.args.path.now) (c.as_str.ensures.value ∙ c.in_ok-place.ensures) _ _ _ _ c.get.ensures) c.bring_place.ensures.there
