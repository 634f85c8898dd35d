use Rattle.token_cells.proofs.gathering.grown.Goals as goal

pub add_all-requires : goal.add_all-requires
add_all-requires g c = record {
  kept = c.requires;
  none = c.in_ok-growing.ensures c.args.flat.now c.args.cfg.now;
}
