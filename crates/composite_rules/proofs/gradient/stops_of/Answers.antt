use Rattle.composite_rules.specs.Value.{gradient_in}
use Rattle.composite_rules.proofs.gradient.stops_of.Goals as goal

pub returns-clause-ok : goal.returns-clause-ok
unfolding gradient_in
returns-clause-ok c = c.some_of.ensures.ok

pub returns-clause-broken : goal.returns-clause-broken
unfolding gradient_in
returns-clause-broken c = c.some_of.ensures.broken
