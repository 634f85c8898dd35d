use Rattle.token_cells.proofs.AddedTokens.{added_more}
use Rattle.token_cells.proofs.gathering.Growing.add.Goals as goal

pub returns-clause-added : goal.returns-clause-added
returns-clause-added g c = λ tokens h.
    added_more c.args.evaluator.now c.args.cfg.now tokens c.args.token.now c.args.self.now _ c.in_ok-row.row h c.in_ok-row.ensures.row c.in_ok-push.ensures.items c.in_ok-row.ensures.typed
