use Rattle.type_rules.proofs.Kept.{values_keep}
use Rattle.type_rules.proofs.Led.{values_lead}
use Rattle.type_rules.proofs.Somes.{values_some}
use Rattle.type_rules.proofs.laws.value_laws.Goals as goal

pub returns : goal.returns
returns c = record {
  kinds = λ legacy kind v s e. (values_keep legacy kind v s e).0;
  keeps = λ legacy kind v s e. (values_keep legacy kind v s e).1;
  written = λ legacy s h. values_some legacy s h;
  breaks = λ legacy kind v b e. values_lead legacy kind v b e;
}
