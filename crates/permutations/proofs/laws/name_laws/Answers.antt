use Rattle.permutations.proofs.NamesApart.{names_are_apart}
use Rattle.permutations.proofs.NamesTell.{names_tell_choices}
use Rattle.permutations.proofs.laws.name_laws.Goals as goal

pub returns-clause-tell : goal.returns-clause-tell
returns-clause-tell c = names_tell_choices

pub returns-clause-apart : goal.returns-clause-apart
returns-clause-apart c = names_are_apart
