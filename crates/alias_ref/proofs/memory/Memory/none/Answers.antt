use Rattle.std.proofs.Common.{sym, subst}
use Rattle.alias_ref.specs.inner.Remembering.{IsBlank}
use Rattle.alias_ref.proofs.RememberedTokens.{blank_none}
use Rattle.alias_ref.proofs.memory.Memory.none.Goals as goal

pub returns : goal.returns
returns c = subst IsBlank (sym c.new.ensures.items) blank_none
