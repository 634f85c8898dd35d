use Rattle.std.specs.FinMap as map
use Rattle.tree_changes.proofs.Linking.{one_name, read_there}
use Rattle.tree_changes.proofs.links.named_by.Goals as goal

pub returns-in-Some : goal.returns-in-Some
returns-in-Some c old new token are named =
    c.one.ensures (map.entries new) token
    (one_name old new token c.args.names.now c.args.targets.now c.in-Some.place.now are c.in-1.is named
    (read_there c.args.targets.now 0 c.in-Some.place.now c.in-Some.ensures.item.3.0 c.in-Some.ensures.item.3.1))
