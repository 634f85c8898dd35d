use Rattle.composite_rules.proofs.Placing.{parts_stand}
use Rattle.composite_rules.proofs.Typing.{parts_typed}
use Rattle.composite_rules.proofs.laws.part_laws.Goals as goal

pub returns : goal.returns
returns c = record {
  typed = λ legacy kind v w t part steps e p q. parts_typed legacy kind v w t part steps e p q;
  stand = λ legacy kind v t part steps e p f. parts_stand legacy kind v t e steps part p f;
}
