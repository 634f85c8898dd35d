use Rattle.composite_rules.specs.Value.{stroke_in}
use Rattle.composite_rules.proofs.stroke.StrokePart.check.Goals as goal

pub returns-in-Some-clause-ok : goal.returns-in-Some-clause-ok
unfolding stroke_in
returns-in-Some-clause-ok c = rw (← c.in-Some.ensures) (rw c.as_str.ensures at c.stroke_of_word.ensures.ok)

pub returns-in-Some-clause-broken : goal.returns-in-Some-clause-broken
unfolding stroke_in
returns-in-Some-clause-broken c = rw (← c.in-Some.ensures) (rw c.as_str.ensures at c.stroke_of_word.ensures.broken)

pub returns-in-None-clause-ok : goal.returns-in-None-clause-ok
unfolding stroke_in
returns-in-None-clause-ok c = rw (← c.in-None.ensures) c.dashes_of.ensures.ok

pub returns-in-None-clause-broken : goal.returns-in-None-clause-broken
unfolding stroke_in
returns-in-None-clause-broken c = rw (← c.in-None.ensures) c.dashes_of.ensures.broken
