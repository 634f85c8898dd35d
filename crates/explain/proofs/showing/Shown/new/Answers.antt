use Rattle.std.proofs.Common.{sym, subst}
use Rattle.explain.specs.inner.Ways.{Knows}
use Rattle.explain.proofs.showing.Shown.new.Goals as goal

pub returns-clause-knows : goal.returns-clause-knows
returns-clause-knows c = subst (λ hs. Knows hs c.new-2.result) (sym c.new.ensures) c.new-2.ensures
