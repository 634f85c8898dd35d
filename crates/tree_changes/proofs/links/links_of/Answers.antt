use Rattle.std.proofs.Common.{List, length, ap}
use Rattle.group_inherit.specs.Flattening.{TokenAt}
use Rattle.tree_changes.proofs.links.links_of.Goals as goal

pub add_all-requires : goal.add_all-requires
add_all-requires c = record {
  beside = c.requires.beside;
  settled = c.requires.settled;
  none = c.in_ok-links.ensures c.args.side.now.old.now c.args.side.now.new.now (ap (λ (ts : List TokenAt). length ts) c.as_slice.ensures.entries);
}
