use Rattle.alias_ref.proofs.RefsInOrder.{refs_in_order, before_strict}
use Rattle.alias_ref.proofs.laws.refs_in_order.Goals as goal

pub returns-clause-order : goal.returns-clause-order
returns-clause-order c = λ d k h. refs_in_order d k h

pub returns-clause-once : goal.returns-clause-once
returns-clause-once c = λ n trail h. before_strict n trail h
