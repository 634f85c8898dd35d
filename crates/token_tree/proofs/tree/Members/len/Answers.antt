use Rattle.token_tree.proofs.NameLists.{how_many}
use Rattle.token_tree.proofs.tree.Members.len.Goals as goal

pub returns : goal.returns
returns c = how_many c.as_slice.result.now c.args.self.now c.as_slice.ensures
