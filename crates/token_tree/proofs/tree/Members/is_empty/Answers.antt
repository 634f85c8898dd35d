use Rattle.std.proofs.Common.{ap, ◌∙◌, ◌==◌}
use Rattle.token_tree.proofs.NameLists.{how_many}
use Rattle.token_tree.proofs.tree.Members.is_empty.Goals as goal

pub returns : goal.returns
returns c = c.is_empty.ensures ∙ ap (λ n. n == 0) (how_many c.as_slice.result.now c.args.self.now c.as_slice.ensures)
