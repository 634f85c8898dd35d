use Rattle.type_rules.proofs.Standing.{steps_lead, items_stand}
use Rattle.type_rules.proofs.laws.step_laws.Goals as goal

pub returns : goal.returns
returns g c = record {
  steps = λ steps v w e. steps_lead steps v w e;
  items = λ xs i room h. items_stand xs i room h;
}
