use Rattle.std.proofs.Common.{refl}
use Rattle.type_rules.specs.Value.{families_in}
use Rattle.type_rules.proofs.families.FamiliesPart.check.Goals as goal

pub returns-in_ok-families-in-Some-clause-ok : goal.returns-in_ok-families-in-Some-clause-ok
unfolding families_in
returns-in_ok-families-in-Some-clause-ok c = rw (← c.in-Some.ensures, c.in_ok-families-in-Some.ensures, c.in_ok-copy-in-Some.ensures) refl

pub returns-in-None-clause-ok : goal.returns-in-None-clause-ok
unfolding families_in
returns-in-None-clause-ok c = rw (← c.in-None.ensures) c.some_of.ensures.ok

pub returns-in-None-clause-broken : goal.returns-in-None-clause-broken
unfolding families_in
returns-in-None-clause-broken c = rw (← c.in-None.ensures) c.some_of.ensures.broken
