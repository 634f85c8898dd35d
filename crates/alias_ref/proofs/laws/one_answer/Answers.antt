use Rattle.alias_ref.proofs.AnswersAreOne.{one_resolved, one_break, never_both}
use Rattle.alias_ref.proofs.laws.one_answer.Goals as goal

pub returns-clause-resolved : goal.returns-clause-resolved
returns-clause-resolved c = λ flat token r s k l. one_resolved flat token r s k l

pub returns-clause-broken : goal.returns-clause-broken
returns-clause-broken c = λ flat token b d k l. one_break flat token b d k l

pub returns-clause-either : goal.returns-clause-either
returns-clause-either c = λ flat token r b k l. never_both flat token r b k l
