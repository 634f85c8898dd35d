use Rattle.resolver_doc.proofs.First.{first_is_told, none_is_told}
use Rattle.resolver_doc.proofs.laws.break_laws.Goals as goal

pub returns-clause-first : goal.returns-clause-first
returns-clause-first c = first_is_told

pub returns-clause-none : goal.returns-clause-none
returns-clause-none c = none_is_told
