use Rattle.all_breaks.proofs.Planned.{one_told}
use Rattle.all_breaks.proofs.Tellings.{one_telling}
use Rattle.all_breaks.proofs.laws.one_listing.Goals as goal

pub returns-clause-permutation : goal.returns-clause-permutation
returns-clause-permutation c =
    one_telling (record { found = c.one_merge.ensures.found; flat = c.one_answer.ensures.flat; broken = c.one_answer.ensures.broken; sound = c.one_answer.ensures.sound }) c.one_cells.ensures

pub returns-clause-files : goal.returns-clause-files
returns-clause-files c =
    one_told (record { found = c.one_merge.ensures.found; flat = c.one_answer.ensures.flat; broken = c.one_answer.ensures.broken; sound = c.one_answer.ensures.sound }) c.one_cells.ensures
    c.file_plan_laws.ensures.one
