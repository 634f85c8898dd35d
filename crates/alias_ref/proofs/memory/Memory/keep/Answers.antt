use Rattle.alias_ref.proofs.RememberedTokens.{kept_at, kept_nothing}
use Rattle.alias_ref.proofs.memory.Memory.keep.Goals as goal

pub returns-then-i-len : goal.returns-then-i-len
returns-then-i-len c = kept_at c.args.self.now.known.items c.args.i c.args.known

pub returns-else-i-len : goal.returns-else-i-len
returns-else-i-len c = kept_nothing c.args.self.now.known.items c.args.i c.args.known
