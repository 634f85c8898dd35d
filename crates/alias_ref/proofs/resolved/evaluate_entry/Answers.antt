use Rattle.alias_ref.proofs.RememberedTokens.{blank_serves}
use Rattle.alias_ref.proofs.resolved.evaluate_entry.Goals as goal

pub resolve-requires : goal.resolve-requires
resolve-requires g c = record {
  token = c.requires.token;
  home = blank_serves c.args.flat.now c.none-memory.result.known.items c.args.path.now c.none-memory.ensures;
}
