use Rattle.composite_rules.specs.Value.{shadows_in}
use Rattle.composite_rules.proofs.shadow.shadows_of.Goals as goal

pub returns-in-Some-clause-ok : goal.returns-in-Some-clause-ok
unfolding shadows_in
returns-in-Some-clause-ok c = rw (← c.in-Some.ensures) c.some_of.ensures.ok

pub returns-in-Some-clause-broken : goal.returns-in-Some-clause-broken
unfolding shadows_in
returns-in-Some-clause-broken c = rw (← c.in-Some.ensures) c.some_of.ensures.broken

pub returns-in-None-clause-ok : goal.returns-in-None-clause-ok
unfolding shadows_in
returns-in-None-clause-ok c = rw (← c.in-None.ensures) c.one_shadow.ensures.ok

pub returns-in-None-clause-broken : goal.returns-in-None-clause-broken
unfolding shadows_in
returns-in-None-clause-broken c = rw (← c.in-None.ensures) c.one_shadow.ensures.broken
