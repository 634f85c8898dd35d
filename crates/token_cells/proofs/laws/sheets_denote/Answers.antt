use Rattle.token_cells.proofs.SheetDenotes.{sheet_denotes}
use Rattle.token_cells.proofs.laws.sheets_denote.Goals as goal

pub returns : goal.returns
returns c = sheet_denotes (record {
  meaning = c.one_meaning.ensures.meaning;
  kind = c.one_meaning.ensures.kind;
  parts = c.parts_mean.ensures;
  depth = c.unbroken_tokens.ensures.depth;
  keeps = c.value_laws.ensures.keeps;
  typed = c.part_laws.ensures.typed;
  apart = c.clash_laws.ensures.apart;
  denote = c.sheet_laws.ensures.denote;
  references = c.sheet_laws.ensures.references;
})
