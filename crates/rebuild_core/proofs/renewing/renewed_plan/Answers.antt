use Rattle.std.proofs.Common.{◌+◌, List, sym, ap, subst, ◌∙◌, arith}
use Rattle.std.proofs.lemmas.Result.{IfOk-weaker}
use Rattle.std.specs.FinMap as finite
use Rattle.tk_io.specs.FilesData.{FilesData}
use Rattle.file_plan.specs.InUse.{resolver_path}
use Rattle.file_plan.specs.Plan.{Plans, planned}
use Rattle.source_trees.specs.Trees.{AreShapesIn}
use Rattle.file_plan.specs.View.{plan_view}
use Rattle.file_plan.specs.declared.source.PlanPerm.{PlanPerm}
use Rattle.build_plain.specs.Work.{added, work}
use Rattle.build_plain.proofs.Works.{no_rise, work_same}
use Rattle.rebuild_core.specs.Work.{PermsWorkFrom}
use Rattle.rebuild_core.specs.inner.Past.{CameTo}
use Rattle.rebuild_core.specs.inner.Reading.{AreInUse}
use Rattle.rebuild_core.specs.inner.Renewing.{all_view}
use Rattle.rebuild_core.proofs.FilesWork.{planned_done, plan_most}
use Rattle.rebuild_core.proofs.renewing.renewed_plan.Goals as goal

pub in_use-requires : goal.in_use-requires
in_use-requires g c = record { past = c.requires.past.1.trees; shapes = c.requires.past.1.shapes; trees = c.requires.trees }

pub perms_under-requires : goal.perms_under-requires
perms_under-requires g c = record {
  past = c.requires.past;
  plan = subst (λ (l : List PlanPerm). Plans (finite.get c.args.files.now resolver_path) (planned (plan_view l))) (sym c.as_slice-list.ensures) c.requires.plan;
  shapes = subst (λ (m : FilesData). AreShapesIn m c.in_ok-now.now.shapes) c.in_ok-now.ensures.are.used c.in_ok-now.ensures.are.shapes;
}

pub renewed_by-requires : goal.renewed_by-requires
renewed_by-requires g c = record {
  plan = c.requires.plan;
  now = subst (λ (l : List PlanPerm). AreInUse c.args.files.now (plan_view l) c.in_ok-now.now) c.as_slice-list.ensures c.in_ok-now.ensures.are;
  all = subst (λ (l : List PlanPerm). CameTo c.args.cfg c.args.files.now (plan_view l) c.in_ok-all.all.outcomes.items) c.as_slice-list.ensures c.in_ok-all.ensures.outcomes;
}

pub returns-in_err-now-clause-at_most : goal.returns-in_err-now-clause-at_most
returns-in_err-now-clause-at_most g c = λ before start is e.
    plan_most before c.args.cfg c.args.files.now c.args.past.now.used is.used c.laws_below.ensures.one c.args.plan c.as_slice-list.result.now c.as_slice-list.ensures start c.args.parses.now c.in_use.new.parses
    c.args.merges.now c.args.merges.now c.args.evals.now c.args.evals.now c.args.first c.requires.plan c.requires.first e c.in_use.ensures.at_most
    (no_rise (PermsWorkFrom before c.args.cfg c.args.files.now (plan_view c.as_slice-list.result.now)) (work 0 c.args.merges.now c.args.evals.now))

pub returns-in_err-all-clause-at_most : goal.returns-in_err-all-clause-at_most
returns-in_err-all-clause-at_most g c = λ before start is e.
    plan_most before c.args.cfg c.args.files.now c.args.past.now.used is.used c.laws_below.ensures.one c.args.plan c.as_slice-list.result.now c.as_slice-list.ensures start c.args.parses.now c.in_use.new.parses
    c.args.merges.now c.perms_under.new.merges c.args.evals.now c.perms_under.new.evals c.args.first c.requires.plan c.requires.first e c.in_use.ensures.at_most
    (c.perms_under.ensures.at_most before is)

pub returns-clause-work : goal.returns-clause-work
returns-clause-work g c = λ before is.
    let files = c.args.files.now in
    let perms = plan_view c.as_slice-list.result.now in
    let plans = subst (λ (l : List PlanPerm). Plans (finite.get files resolver_path) (planned (plan_view l))) (sym c.as_slice-list.ensures) c.requires.plan in
    IfOk-weaker c.renewed_by.result _ _
    (λ r counts.
    planned_done before c.args.cfg files c.args.past.now.used is.used perms c.args.first c.in_ok-now.now.read (all_view c.in_ok-all.all) _ plans c.requires.first c.in_ok-now.ensures.count
    (c.in_ok-all.ensures.work before is) (counts ∙ work_same (omega arith) (omega arith) (omega arith)))
    c.renewed_by.ensures.counts

pub returns-clause-counted : goal.returns-clause-counted
returns-clause-counted g c = λ start e.
    IfOk-weaker c.renewed_by.result _ _
    (λ r counts.
    work_same {p = c.in_use.new.parses} {q = start + (c.args.first + c.in_ok-now.now.read)} (omega (arith, e, c.in_ok-now.ensures.step)) (ap (λ w. w.merges) c.in_ok-all.ensures.counted) (ap (λ w. w.evals) c.in_ok-all.ensures.counted)
    ∙ ap (added (work start c.args.merges.now c.args.evals.now)) (sym counts))
    c.renewed_by.ensures.counts

pub returns-clause-at_most : goal.returns-clause-at_most
returns-clause-at_most g c = λ before start is e.
    plan_most before c.args.cfg c.args.files.now c.args.past.now.used is.used c.laws_below.ensures.one c.args.plan c.as_slice-list.result.now c.as_slice-list.ensures start c.args.parses.now c.in_use.new.parses
    c.args.merges.now c.perms_under.new.merges c.args.evals.now c.perms_under.new.evals c.args.first c.requires.plan c.requires.first e c.in_use.ensures.at_most
    (c.perms_under.ensures.at_most before is)
