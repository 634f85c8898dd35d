use Rattle.token_cells.proofs.RowsTellFirst.{rows_tell_first}
use Rattle.token_cells.proofs.laws.value_row_laws.Goals as goal

pub returns : goal.returns
returns c = rows_tell_first
