use Rattle.std.proofs.Common.{length, ap, sym, ◌∙◌}
use Rattle.std.specs.FinMap as map
use Rattle.group_inherit.proofs.flat_tree.Flat.len.Goals as goal

pub returns : goal.returns
returns c = ap length c.as_slice.ensures.entries ∙ sym (map.len-entries c.args.self.now)
