use Rattle.build_plain.proofs.NamedTree.{one_of_name}
use Rattle.build_plain.proofs.OneOutputs.{one_finding}
use Rattle.build_plain.proofs.laws.one_verdict.Goals as goal

pub returns-clause-found : goal.returns-clause-found
returns-clause-found c = λ settings files p cells others breaks more found found_too.
    one_finding (record { found = c.one_merge.ensures.found; flat = c.one_answer.ensures.flat; broken = c.one_answer.ensures.broken; sound = c.one_answer.ensures.sound }) c.one_cells.ensures
    settings files p.sources cells others breaks more found found_too

pub returns-clause-name : goal.returns-clause-name
returns-clause-name c = one_of_name (record {
  plan = c.file_plan_laws.ensures.one;
  apart = c.file_plan_laws.ensures.apart;
  found = c.one_merge.ensures.found;
  flat = c.one_merge.ensures.flat;
  sound = c.one_answer.ensures.sound;
})
