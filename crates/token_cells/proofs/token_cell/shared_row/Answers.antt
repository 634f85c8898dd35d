use Rattle.token_cells.proofs.token_cell.shared_row.Goals as goal

pub returns-in-Err-clause-row : goal.returns-in-Err-clause-row
returns-in-Err-clause-row c = λ flat there h. c.value_row.ensures flat c.args.cfg.now c.args.resolved.now c.args.pages.now c.in-Err.ensures.broken h
