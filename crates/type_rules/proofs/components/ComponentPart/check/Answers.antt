use Rattle.type_rules.specs.Value.{component_in}
use Rattle.type_rules.proofs.components.ComponentPart.check.Goals as goal

pub returns-in-Some-clause-ok : goal.returns-in-Some-clause-ok
unfolding component_in
returns-in-Some-clause-ok c = rw (← c.in-Some.ensures) (rw c.as_str.ensures at c.component_of_word.ensures.ok)

pub returns-in-Some-clause-broken : goal.returns-in-Some-clause-broken
unfolding component_in
returns-in-Some-clause-broken c = rw (← c.in-Some.ensures) (rw c.as_str.ensures at c.component_of_word.ensures.broken)

pub returns-in-None-clause-ok : goal.returns-in-None-clause-ok
unfolding component_in
returns-in-None-clause-ok c = rw (← c.in-None.ensures) c.component_of_number.ensures.ok

pub returns-in-None-clause-broken : goal.returns-in-None-clause-broken
unfolding component_in
returns-in-None-clause-broken c = rw (← c.in-None.ensures) c.component_of_number.ensures.broken
