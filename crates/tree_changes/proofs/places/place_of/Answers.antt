use Rattle.tree_changes.proofs.Standing.{key_place}
use Rattle.tree_changes.proofs.places.place_of.Goals as goal

pub returns-in-Some : goal.returns-in-Some
returns-in-Some c = key_place c.args.tokens.now c.args.path.now c.in-Some.i c.requires c.in-Some.ensures.0 c.in-Some.ensures.1
