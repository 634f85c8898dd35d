use Rattle.std.proofs.Common.{◌∙◌}
use Rattle.tk_io.proofs.Members.{holds_it}
use Rattle.tk_io.proofs.search.is_in.Goals as goal

pub returns : goal.returns
returns g c = c.is_ok.ensures.value ∙ holds_it g.met.T.Ord.total c.args.list.now c.args.item.now c.binary_search.result c.requires c.binary_search.ensures.bound c.binary_search.ensures.position
