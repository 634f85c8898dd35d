use Rattle.group_inherit.proofs.Naming.{first_of_name}
use Rattle.group_inherit.proofs.Overs.{by_name}
use Rattle.group_inherit.proofs.laws.over_by_name.Goals as goal

pub returns-clause-over : goal.returns-clause-over
returns-clause-over c = by_name

pub returns-clause-first : goal.returns-clause-first
returns-clause-first c = first_of_name
