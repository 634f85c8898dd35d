use Rattle.build_plain.proofs.OneOutputs.{one_build, one_work}
use Rattle.build_plain.proofs.laws.one_build.Goals as goal

pub returns-clause-outputs : goal.returns-clause-outputs
returns-clause-outputs c = one_build c.file_plan_laws.ensures.one
    (record { found = c.one_merge.ensures.found; flat = c.one_answer.ensures.flat; broken = c.one_answer.ensures.broken; sound = c.one_answer.ensures.sound }) c.one_cells.ensures

pub returns-clause-work : goal.returns-clause-work
returns-clause-work c = one_work (record { found = c.one_merge.ensures.found; flat = c.one_answer.ensures.flat; broken = c.one_answer.ensures.broken; sound = c.one_answer.ensures.sound })
    c.file_plan_laws.ensures.one
