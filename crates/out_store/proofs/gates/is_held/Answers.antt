use Rattle.std.proofs.Common.{◌≡◌, ◌∙◌, is_some, ap, Option, Bool, List, ℕ}
use Rattle.out_store.proofs.Runs.{caused_same}
use Rattle.out_store.proofs.Told.{if_as}
use Rattle.out_store.specs.Kept.{has}
use Rattle.out_store.proofs.gates.is_held.Goals as goal

pub returns-in-Ok-clause-found : goal.returns-in-Ok-clause-found
returns-in-Ok-clause-found g c =
    if_as (λ m. c.is_some.result ≡ has m c.args.path.now) (g.T.Store.held c.args.store.now) c.in-Ok.ensures.found (λ m e. c.is_some.ensures ∙ ap is_some e)

pub returns-in-Err-clause-cause : goal.returns-in-Err-clause-cause
returns-in-Err-clause-cause g c = caused_same (Option (List ℕ)) Bool c.in-Err.stop _ _ c.in-Err.ensures.cause
