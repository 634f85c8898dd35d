use Rattle.std.proofs.Common.{List, refl, sym, subst}
use Rattle.std.proofs.lemmas.Result.{on_ok_weaker}
use Rattle.std.specs.FinMap as map
use Rattle.file_plan.specs.InUse.{resolver_path}
use Rattle.file_plan.specs.Plan.{Plans, planned}
use Rattle.file_plan.specs.Trees.{IsRead}
use Rattle.file_plan.specs.View.{plan_view}
use Rattle.file_plan.specs.declared.source.PlanPerm.{PlanPerm}
use Rattle.build_plain.proofs.Planned.{planned_work, planned_within, refusal_work, resolver_within}
use Rattle.build_plain.proofs.Trees.{document_read}
use Rattle.build_plain.proofs.Works.{on_ok_both}
use Rattle.build_plain.proofs.making.make_under.Goals as goal

pub make_planned-requires : goal.make_planned-requires
make_planned-requires g c = λ k.
    let text = map.get c.args.files.now resolver_path in (
      (refl, tt),
      (
        subst (λ (l : List PlanPerm). Plans text (planned (plan_view l))) (sym c.as_slice-plan.ensures)
            (c.in-Ok.ensures.plan text (subst (IsRead text) (sym c.get.ensures) (document_read c.args.files.now c.in_ok-trees.trees c.in_ok-trees.ensures.trees))),
        c.in_ok-trees.ensures.trees,
      ),
    )

pub returns-in-Ok-clause-ok : goal.returns-in-Ok-clause-ok
returns-in-Ok-clause-ok g c = c.make_planned.ensures.ok

pub returns-in-Ok-clause-work : goal.returns-in-Ok-clause-work
returns-in-Ok-clause-work g c =
    on_ok_both c.make_planned.result
    (λ steps rise. planned_work c.args.files.now c.args.cfg.now (plan_view c.as_slice-plan.result.now) c.args.parses.now c.read_resolver.new.parses c.make_planned.new.parses
    c.args.merges.now c.make_planned.new.merges c.args.evals.now c.make_planned.new.evals (subst (λ (l : List PlanPerm). Plans (map.get c.args.files.now resolver_path) (planned (plan_view l))) (sym c.as_slice-plan.ensures)
    (c.in-Ok.ensures.plan (map.get c.args.files.now resolver_path) (subst (IsRead (map.get c.args.files.now resolver_path)) (sym c.get.ensures)
    (document_read c.args.files.now c.in_ok-trees.trees c.in_ok-trees.ensures.trees)))) c.in_ok-trees.ensures.steps steps rise)
    c.make_planned.ensures.steps c.make_planned.ensures.work

pub returns-in-Ok-clause-at_most : goal.returns-in-Ok-clause-at_most
returns-in-Ok-clause-at_most g c =
    planned_within c.args.files.now c.args.cfg.now c.file_plan_laws.ensures.one (plan_view c.as_slice-plan.result.now) c.args.parses.now c.read_resolver.new.parses c.make_planned.new.parses
    c.args.merges.now c.make_planned.new.merges c.args.evals.now c.make_planned.new.evals (subst (λ (l : List PlanPerm). Plans (map.get c.args.files.now resolver_path) (planned (plan_view l))) (sym c.as_slice-plan.ensures)
    (c.in-Ok.ensures.plan (map.get c.args.files.now resolver_path) (subst (IsRead (map.get c.args.files.now resolver_path)) (sym c.get.ensures)
    (document_read c.args.files.now c.in_ok-trees.trees c.in_ok-trees.ensures.trees)))) c.in_ok-trees.ensures.steps c.make_planned.ensures.most_steps c.make_planned.ensures.at_most

pub unplanned-requires : goal.unplanned-requires
unplanned-requires g c = λ k.
    let text = map.get c.args.files.now resolver_path in (
      (refl, tt),
      (
        c.in-Err.ensures.refused text (subst (IsRead text) (sym c.get.ensures) (document_read c.args.files.now c.in_ok-trees.trees c.in_ok-trees.ensures.trees)),
        c.in_ok-trees.ensures.trees,
      ),
    )

pub returns-in-Err-clause-ok : goal.returns-in-Err-clause-ok
returns-in-Err-clause-ok g c = c.unplanned.ensures.ok c.args.cfg.now

pub returns-in-Err-clause-work : goal.returns-in-Err-clause-work
returns-in-Err-clause-work g c =
    let text = map.get c.args.files.now resolver_path in
    on_ok_weaker c.unplanned.result
    (λ broken. refusal_work c.args.files.now c.args.cfg.now c.in-Err.refusal
    (c.in-Err.ensures.refused text (subst (IsRead text) (sym c.get.ensures) (document_read c.args.files.now c.in_ok-trees.trees c.in_ok-trees.ensures.trees)))
    c.args.parses.now c.read_resolver.new.parses c.args.merges.now c.args.evals.now broken c.in_ok-trees.ensures.steps) c.unplanned.ensures.broken

pub returns-in-Err-clause-at_most : goal.returns-in-Err-clause-at_most
returns-in-Err-clause-at_most g c =
    resolver_within c.args.files.now c.args.cfg.now c.args.parses.now c.read_resolver.new.parses c.args.merges.now c.args.evals.now c.read_resolver.ensures.at_most

pub returns-in_err-trees-clause-at_most : goal.returns-in_err-trees-clause-at_most
returns-in_err-trees-clause-at_most g c =
    resolver_within c.args.files.now c.args.cfg.now c.args.parses.now c.read_resolver.new.parses c.args.merges.now c.args.evals.now c.read_resolver.ensures.at_most
