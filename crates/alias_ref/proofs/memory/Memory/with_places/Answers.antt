use Rattle.std.proofs.Common.{sym, subst}
use Rattle.alias_ref.specs.inner.Remembering.{IsBlank}
use Rattle.alias_ref.proofs.RememberedTokens.{blank_none, blank_more}
use Rattle.alias_ref.proofs.memory.Memory.with_places.Goals as goal

pub loop-left-init : goal.loop-left-init
loop-left-init c = subst IsBlank (sym c.in_ok-known.ensures.items) blank_none

pub loop-left-preserved : goal.loop-left-preserved
loop-left-preserved c = subst IsBlank (sym c.in_ok-push.ensures.items) (blank_more c.loop-left.known.items c.loop-left.invariant)
