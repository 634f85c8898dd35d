use Rattle.group_inherit.proofs.OneAnswer.{one_flat, one_break, sound_unbroken}
use Rattle.group_inherit.proofs.laws.one_answer.Goals as goal

pub returns-clause-flat : goal.returns-clause-flat
returns-clause-flat c = one_flat

pub returns-clause-broken : goal.returns-clause-broken
returns-clause-broken c = one_break

pub returns-clause-sound : goal.returns-clause-sound
returns-clause-sound c = sound_unbroken
