use Rattle.token_cells.proofs.gathering.grown_since.Goals as goal

pub add_all_since-requires : goal.add_all_since-requires
add_all_since-requires g c = record {
  kept = c.requires.kept;
  long = c.requires.long;
  none = c.in_ok-growing.ensures c.args.flat.now c.args.cfg.now;
}
