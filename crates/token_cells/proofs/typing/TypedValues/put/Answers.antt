use Rattle.token_cells.proofs.TypedTokens.{kept_typed}
use Rattle.token_cells.proofs.typing.TypedValues.put.Goals as goal

pub returns-then-i-len : goal.returns-then-i-len
returns-then-i-len c =
    kept_typed c.args.self.now.known.items c.reach.new.self.known.items c.args.i (record { kind = c.args.kind; typed = c.args.typed }) c.reach.ensures
