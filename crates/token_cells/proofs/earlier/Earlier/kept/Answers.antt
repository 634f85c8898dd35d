use Rattle.token_cells.proofs.KeptRows.{none_kept, none_known}
use Rattle.token_cells.proofs.earlier.Earlier.kept.Goals as goal

pub returns-in-None : goal.returns-in-None
returns-in-None c = record {
  rows = none_kept c.args.flat.now c.args.config.now c.new.result.items c.new.ensures.items;
  named = none_known c.args.flat.now c.new-in-None.result.items c.new-in-None.ensures.items;
}
