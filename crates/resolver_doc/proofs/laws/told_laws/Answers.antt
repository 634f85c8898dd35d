use Rattle.resolver_doc.proofs.ToldRules.{unbroken_breaks_none, none_broken_is_unbroken, told_is_first_broken}
use Rattle.resolver_doc.proofs.laws.told_laws.Goals as goal

pub returns-clause-unbroken : goal.returns-clause-unbroken
returns-clause-unbroken c = unbroken_breaks_none

pub returns-clause-none : goal.returns-clause-none
returns-clause-none c = none_broken_is_unbroken

pub returns-clause-first : goal.returns-clause-first
returns-clause-first c = told_is_first_broken
