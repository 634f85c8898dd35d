use Rattle.all_breaks.proofs.Tellings.{first_told}
use Rattle.all_breaks.proofs.laws.first_is_refused.Goals as goal

pub returns : goal.returns
returns c settings files p cells breaks reports finds (firsts, are, by) =
    first_told (record { found = c.one_merge.ensures.found; flat = c.one_answer.ensures.flat; broken = c.one_answer.ensures.broken; sound = c.one_answer.ensures.sound }) c.one_cells.ensures
    settings files p firsts cells breaks reports are finds by
