use Rattle.token_cells.proofs.OneCells.{one_cells}
use Rattle.token_cells.proofs.laws.one_cells.Goals as goal

pub returns : goal.returns
returns c = one_cells (record { meaning = c.one_meaning.ensures.meaning; kind = c.one_meaning.ensures.kind; links = c.one_meaning.ensures.links; broken = c.one_answer.ensures.broken })
