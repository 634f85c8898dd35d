use Rattle.token_cells.proofs.Unreached.{taken_are_cells, unreached_is_alike}
use Rattle.token_cells.proofs.laws.unreached_cells.Goals as goal

pub returns : goal.returns
returns c =
    let decides = c.differ_decides.ensures in
    let refs = c.source_decides.ensures.refs in
    let cells = c.unchanged_cells.ensures in
    record { alike = unreached_is_alike decides refs cells; taken = taken_are_cells decides refs cells }
