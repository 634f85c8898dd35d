use Rattle.transforms.proofs.Endings.{endings_stay}
use Rattle.transforms.proofs.FiveNamesDiffer.{five_names_differ}
use Rattle.transforms.proofs.HexDigits.{numbers_read_back}
use Rattle.transforms.proofs.PathsNamed.{paths_are_named}
use Rattle.transforms.proofs.laws.name_laws.Goals as goal

pub returns-clause-numbers : goal.returns-clause-numbers
returns-clause-numbers c = numbers_read_back

pub returns-clause-endings : goal.returns-clause-endings
returns-clause-endings c = endings_stay

pub returns-clause-named : goal.returns-clause-named
returns-clause-named c = paths_are_named

pub returns-clause-five : goal.returns-clause-five
returns-clause-five c = five_names_differ
