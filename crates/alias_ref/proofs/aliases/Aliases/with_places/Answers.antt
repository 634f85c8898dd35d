use Rattle.std.proofs.Common.{sym, subst}
use Rattle.alias_ref.specs.inner.Chains.{HasNone}
use Rattle.alias_ref.proofs.AliasChains.{none_blank, none_more}
use Rattle.alias_ref.proofs.aliases.Aliases.with_places.Goals as goal

pub loop-left-init : goal.loop-left-init
loop-left-init c = subst HasNone (sym c.in_ok-targets.ensures.items) none_blank

pub loop-left-preserved : goal.loop-left-preserved
loop-left-preserved c = subst HasNone (sym c.in_ok-push.ensures.items) (none_more c.loop-left.targets.items c.loop-left.invariant)
