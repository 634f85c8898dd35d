use Rattle.resolver_doc.proofs.OneAnswer.{one_fault, not_refused}
use Rattle.resolver_doc.proofs.laws.plan_laws.Goals as goal

pub returns-clause-one : goal.returns-clause-one
returns-clause-one c = one_fault

pub returns-clause-unbroken : goal.returns-clause-unbroken
returns-clause-unbroken c = not_refused
