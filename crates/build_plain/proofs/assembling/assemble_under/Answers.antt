use Rattle.std.proofs.Common.{Ok, List, sym, subst}
use Rattle.std.proofs.lemmas.Result.{IfOk-weaker}
use Rattle.std.specs.FinMap as map
use Rattle.file_plan.specs.InUse.{resolver_path}
use Rattle.file_plan.specs.Plan.{Plans, planned}
use Rattle.file_plan.specs.Trees.{IsRead}
use Rattle.file_plan.specs.View.{plan_view}
use Rattle.file_plan.specs.declared.source.PlanPerm.{PlanPerm}
use Rattle.build_plain.specs.Out.{BuildsUnder}
use Rattle.build_plain.proofs.Planned.{under_plan, under_refusal}
use Rattle.build_plain.proofs.Trees.{parts_read, parts_of_plan}
use Rattle.build_plain.proofs.assembling.assemble_under.Goals as goal

pub assemble_planned-requires : goal.assemble_planned-requires
assemble_planned-requires c =
    let files = c.args.files.now in
    let text = map.get files resolver_path in
    let (q, plans, are) = c.requires in
    let plan = subst (λ (l : List PlanPerm). Plans text (planned (plan_view l))) (sym c.as_slice.ensures)
    (c.in-Ok.ensures.plan text (subst (IsRead text) (sym c.get.ensures) (parts_read files c.args.cfg.now c.args.parts.now c.in_use_laws.ensures q are))) in
    record {
      plan = plan;
      parts = parts_of_plan files c.args.cfg.now c.args.parts.now c.file_plan_laws.ensures.one q (plan_view c.as_slice.result.now) plans plan are;
    }

pub returns-in-Ok : goal.returns-in-Ok
returns-in-Ok c =
    let files = c.args.files.now in
    let text = map.get files resolver_path in
    let (q, plans, are) = c.requires in
    let plan = subst (λ (l : List PlanPerm). Plans text (planned (plan_view l))) (sym c.as_slice.ensures)
    (c.in-Ok.ensures.plan text (subst (IsRead text) (sym c.get.ensures) (parts_read files c.args.cfg.now c.args.parts.now c.in_use_laws.ensures q are))) in
    IfOk-weaker c.assemble_planned.result _ (BuildsUnder files (Ok c.args.cfg.now)) (λ o gives. under_plan files c.args.cfg.now (plan_view c.as_slice.result.now) o plan gives) c.assemble_planned.ensures

pub returns-in-Err : goal.returns-in-Err
returns-in-Err c =
    let files = c.args.files.now in
    let text = map.get files resolver_path in
    let (q, plans, are) = c.requires in
    IfOk-weaker c.refused_plan.result _ (BuildsUnder files (Ok c.args.cfg.now))
    (λ o told. under_refusal files c.args.cfg.now c.in-Err.refusal o
    (c.in-Err.ensures.refused text (subst (IsRead text) (sym c.get.ensures) (parts_read files c.args.cfg.now c.args.parts.now c.in_use_laws.ensures q are))) told) c.refused_plan.ensures
