use Rattle.composite_rules.proofs.Kept.{values_keep, positions_clamp, shares_stay}
use Rattle.composite_rules.proofs.Led.{values_lead, zeros_break}
use Rattle.composite_rules.proofs.Somes.{values_some}
use Rattle.composite_rules.proofs.laws.value_laws.Goals as goal

pub returns : goal.returns
returns c = record {
  kinds = λ legacy kind v t e. (values_keep legacy kind v t e).0;
  keeps = λ legacy kind v t e. (values_keep legacy kind v t e).1;
  written = λ legacy t h. values_some legacy t h;
  breaks = λ legacy kind v b e. values_lead legacy kind v b e;
  zeros = λ legacy v zero es o n. zeros_break legacy v zero es o n;
  clamps = λ d. positions_clamp d;
  shares = λ d h. shares_stay d h;
}
