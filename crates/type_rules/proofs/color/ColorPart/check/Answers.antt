use Rattle.type_rules.specs.Value.{color_in}
use Rattle.type_rules.proofs.color.ColorPart.check.Goals as goal

pub returns-in-Some-clause-ok : goal.returns-in-Some-clause-ok
unfolding color_in
returns-in-Some-clause-ok c = rw (← c.in-Some.ensures) c.color_of_text.ensures.ok

pub returns-in-Some-clause-broken : goal.returns-in-Some-clause-broken
unfolding color_in
returns-in-Some-clause-broken c = rw (← c.in-Some.ensures) c.color_of_text.ensures.broken

pub returns-in-None-clause-ok : goal.returns-in-None-clause-ok
unfolding color_in
returns-in-None-clause-ok c = rw (← c.in-None.ensures) c.color_of_object.ensures.ok

pub returns-in-None-clause-broken : goal.returns-in-None-clause-broken
unfolding color_in
returns-in-None-clause-broken c = rw (← c.in-None.ensures) c.color_of_object.ensures.broken
