use Rattle.explain.proofs.WaysKnown.{known_some, some_known}
use Rattle.explain.proofs.ways.Ways.has.Goals as goal

pub returns-clause-starts : goal.returns-clause-starts
returns-clause-starts c = λ hops k t. known_some hops c.args.self.now c.args.place.now c.contains_key.result k c.contains_key.ensures t

pub returns-clause-exact : goal.returns-clause-exact
returns-clause-exact c = λ hops k i. some_known hops c.args.self.now c.args.place.now c.contains_key.result k c.contains_key.ensures i
