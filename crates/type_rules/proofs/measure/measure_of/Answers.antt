use Rattle.type_rules.specs.Value.{measure_in}
use Rattle.type_rules.proofs.measure.measure_of.Goals as goal

pub returns-in-Some-clause-ok : goal.returns-in-Some-clause-ok
unfolding measure_in
returns-in-Some-clause-ok g c = rw (← c.in-Some.ensures) c.measure_of_text.ensures.ok

pub returns-in-Some-clause-broken : goal.returns-in-Some-clause-broken
unfolding measure_in
returns-in-Some-clause-broken g c = rw (← c.in-Some.ensures) c.measure_of_text.ensures.broken

pub returns-in-None-clause-ok : goal.returns-in-None-clause-ok
unfolding measure_in
returns-in-None-clause-ok g c = rw (← c.in-None.ensures) c.measure_of_object.ensures.ok

pub returns-in-None-clause-broken : goal.returns-in-None-clause-broken
unfolding measure_in
returns-in-None-clause-broken g c = rw (← c.in-None.ensures) c.measure_of_object.ensures.broken
