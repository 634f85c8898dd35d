use Rattle.std.proofs.Common.{subst}
use Rattle.build_plain.specs.Outcomes.{HoldsCells}
use Rattle.rebuild_core.proofs.plan_perms.tree_under.Goals as goal

pub returns-then-is_same-clause-other : goal.returns-then-is_same-clause-other
returns-then-is_same-clause-other c = λ other. absurd (other (c.is_same-is_same.ensures.same c.if-is_same.true))

pub returns-then-is_same-clause-cells : goal.returns-then-is_same-clause-cells
returns-then-is_same-clause-cells c = λ holds.
    c.tree_in.ensures.cells c.args.cfg.now (subst (λ s. HoldsCells s c.args.outcome.now) (c.is_same-is_same.ensures.same c.if-is_same.true) holds)

pub returns-clause-same : goal.returns-clause-same
returns-clause-same c = λ same. absurd (c.is_same-is_same.ensures.other c.if-is_same.false same)
