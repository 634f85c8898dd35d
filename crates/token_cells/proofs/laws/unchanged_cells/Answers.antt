use Rattle.token_cells.proofs.UnchangedTokens.{same_cell}
use Rattle.token_cells.proofs.laws.unchanged_cells.Goals as goal

pub returns : goal.returns
returns c = λ old new settings path cell defs of_new un h. same_cell c.unchanged_is_alike.ensures c.source_decides.ensures.shown old new path defs of_new un settings cell h
