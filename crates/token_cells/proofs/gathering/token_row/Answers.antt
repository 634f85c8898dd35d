use Rattle.token_cells.specs.Cell.{IsCell}
use Rattle.token_cells.specs.inner.Kept.{kept_view}
use Rattle.token_cells.proofs.Known.{there_is}
use Rattle.token_cells.proofs.gathering.token_row.Goals as goal

pub returns-in-Some-clause-row : goal.returns-in-Some-clause-row
returns-in-Some-clause-row g c =
    let comes = there_is c.args.kept c.in-Some.kept (λ k. IsCell c.args.evaluator.now c.args.cfg.now c.args.token.now.0 (kept_view k)) c.in-Some.is c.requires.kept in
    (kept_view c.in-Some.kept, comes, c.in_ok-row.ensures)
