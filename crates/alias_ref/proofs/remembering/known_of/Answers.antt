use Rattle.alias_ref.proofs.RememberedTokens.{entry_there, new_serves}
use Rattle.alias_ref.proofs.remembering.known_of.Goals as goal

pub resolve-requires : goal.resolve-requires
resolve-requires c = record {
  token = entry_there c.args.flat.now c.args.i c.args.token.now c.requires.token;
  home = new_serves c.args.flat.now c.args.memory.now.known.items c.args.i c.args.token.now c.requires.right c.requires.token c.requires.new;
}
