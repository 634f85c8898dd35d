use Rattle.transforms.proofs.Added.{names_apart, names_there, names_from_tokens}
use Rattle.transforms.proofs.NamesApart.{all_names_apart}
use Rattle.transforms.proofs.Risen.{rising_are_apart}
use Rattle.transforms.proofs.laws.clash_laws.Goals as goal

pub returns-clause-apart : goal.returns-clause-apart
returns-clause-apart c = names_apart

pub returns-clause-there : goal.returns-clause-there
returns-clause-there c = names_there

pub returns-clause-tokens : goal.returns-clause-tokens
returns-clause-tokens c = names_from_tokens

pub returns-clause-all : goal.returns-clause-all
returns-clause-all c = all_names_apart

pub returns-clause-rising : goal.returns-clause-rising
returns-clause-rising c = rising_are_apart
