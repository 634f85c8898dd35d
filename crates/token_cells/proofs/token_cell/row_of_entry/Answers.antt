use Rattle.token_cells.proofs.token_cell.row_of_entry.Goals as goal

pub returns-in-Ok-clause-row : goal.returns-in-Ok-clause-row
returns-in-Ok-clause-row g c = c.own_row.ensures c.args.flat.now c.requires.token c.in-Ok.ensures.resolved

pub returns-clause-row : goal.returns-clause-row
returns-clause-row g c =
    c.fault_row.ensures c.args.flat.now c.args.cfg.now c.args.path.now c.args.pages.now c.in-Err.ensures.broken
