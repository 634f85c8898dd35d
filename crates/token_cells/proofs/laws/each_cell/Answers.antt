use Rattle.token_cells.proofs.CellsExist.{each_cell, each_cells}
use Rattle.token_cells.proofs.laws.each_cell.Goals as goal

pub returns-clause-one : goal.returns-clause-one
returns-clause-one c = each_cell (record {
  meaning = c.unbroken_tokens.ensures.meaning;
  kind = c.unbroken_tokens.ensures.kind;
  links = c.unbroken_tokens.ensures.links;
  fits = c.meanings_fit.ensures;
  say = c.plain_laws.ensures.shown;
  said = c.plain_laws.ensures.fits;
  named = c.name_laws.ensures.named;
})

pub returns-clause-all : goal.returns-clause-all
returns-clause-all c = each_cells (record {
  meaning = c.unbroken_tokens.ensures.meaning;
  kind = c.unbroken_tokens.ensures.kind;
  links = c.unbroken_tokens.ensures.links;
  fits = c.meanings_fit.ensures;
  say = c.plain_laws.ensures.shown;
  said = c.plain_laws.ensures.fits;
  named = c.name_laws.ensures.named;
})
