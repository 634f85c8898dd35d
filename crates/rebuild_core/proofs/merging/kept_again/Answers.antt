use Rattle.std.proofs.Common.{Some, refl, sym, subst, arith}
use Rattle.build_plain.proofs.Works.{work_same}
use Rattle.rebuild_core.specs.inner.Merging.{WorkBeside}
use Rattle.rebuild_core.specs.inner.Past.{outcome_of}
use Rattle.rebuild_core.proofs.PermWorks.{if_both, same_work, recast_work, within_recast}
use Rattle.rebuild_core.proofs.merging.kept_again.Goals as goal

pub returns-then-is_same-clause-work : goal.returns-then-is_same-clause-work
returns-then-is_same-clause-work g c = λ files p before again.
    same_work c.differ_decides.ensures c.args.cfg.now c.args.config.now files p (outcome_of c.args.kept.now) before again (c.is_same-is_same.ensures.same c.if-is_same.true)

pub returns-clause-outcome : goal.returns-clause-outcome
returns-clause-outcome g c = λ files p is. c.recast.ensures.outcome files p c.args.config.now is

pub returns-clause-work : goal.returns-clause-work
returns-clause-work g c = λ files p before again.
    if_both c.recast.result c.recast.ensures.merge c.recast.ensures.count
    (λ done none all. subst (WorkBeside (Some before) c.args.cfg.now files p) (work_same refl (sym none) refl)
    (recast_work c.differ_decides.ensures c.args.cfg.now c.args.config.now files p (outcome_of c.args.kept.now) before again done.evaluated all (c.is_same-is_same.ensures.other c.if-is_same.false)))

pub returns-clause-counted : goal.returns-clause-counted
returns-clause-counted g c =
    if_both c.recast.result c.recast.ensures.merge c.recast.ensures.steps (λ done none step. λ m. work_same (omega arith) (omega (arith, none)) step)

pub returns-clause-at_most : goal.returns-clause-at_most
returns-clause-at_most g c = λ files p before m again.
    within_recast c.differ_decides.ensures c.args.cfg.now c.args.config.now files p (outcome_of c.args.kept.now) before again c.laws_below.ensures.one m c.args.evals.now c.recast.new.evals
    (c.is_same-is_same.ensures.other c.if-is_same.false) c.recast.ensures.at_most
