use Rattle.transforms.proofs.Allowed.{texts_say_allowed, plain_is_allowed}
use Rattle.transforms.proofs.laws.config_laws.Goals as goal

pub returns-clause-texts : goal.returns-clause-texts
returns-clause-texts c = texts_say_allowed

pub returns-clause-plain : goal.returns-clause-plain
returns-clause-plain c = plain_is_allowed
