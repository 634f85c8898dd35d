use Rattle.token_cells.specs.inner.Kept.{kept_view}
use Rattle.token_cells.proofs.AddedTokens.{added_more}
use Rattle.token_cells.proofs.gathering.Growing.add_kept.Goals as goal

pub returns : goal.returns
returns c = λ flat settings tokens token is h.
    added_more flat settings tokens token c.args.self.now _ c.in_ok-row.row h (kept_view c.args.kept, is, c.in_ok-row.ensures) c.in_ok-push.ensures.items h.typed
