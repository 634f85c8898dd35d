use Rattle.token_tree.proofs.Names.{name_decided}
use Rattle.token_tree.proofs.properties.is_name.Goals as goal

pub returns : goal.returns
returns c = name_decided c.is_name.result c.args.name.now c.is_name.ensures
