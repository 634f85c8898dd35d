use Rattle.std.proofs.Common.{List, Ok, sym, subst}
use Rattle.std.proofs.lemmas.Result.{IfErr-weaker, IfOk-weaker}
use Rattle.std.specs.FinMap as map
use Rattle.file_plan.specs.InUse.{resolver_path}
use Rattle.file_plan.specs.Plan.{Plans, planned}
use Rattle.file_plan.specs.Trees.{IsRead}
use Rattle.file_plan.specs.View.{plan_view}
use Rattle.file_plan.specs.declared.source.PlanPerm.{PlanPerm}
use Rattle.build_plain.specs.OneTree.{ComesToUnder, IsStop, has_tree}
use Rattle.build_plain.proofs.NamedTree.{document_within, memory_stops, plan_stops, read_within, stops_under}
use Rattle.build_plain.proofs.Trees.{document_read}
use Rattle.build_plain.proofs.one_tree.flat_under.Goals as goal

pub flat_planned-requires : goal.flat_planned-requires
flat_planned-requires g c =
    let text = map.get c.args.files.now resolver_path in
    record {
      plan = subst (λ (l : List PlanPerm). Plans text (planned (plan_view l))) (sym c.as_slice-plan.ensures)
          (c.in-Ok.ensures.plan text (subst (IsRead text) (sym c.get.ensures) (document_read c.args.files.now c.in_ok-trees.trees c.in_ok-trees.ensures.trees)));
      trees = c.in_ok-trees.ensures.trees;
    }

pub returns-in-Ok-clause-ok : goal.returns-in-Ok-clause-ok
returns-in-Ok-clause-ok g c settings =
    let text = map.get c.args.files.now resolver_path in
    let plan = subst (λ (l : List PlanPerm). Plans text (planned (plan_view l))) (sym c.as_slice-plan.ensures)
    (c.in-Ok.ensures.plan text (subst (IsRead text) (sym c.get.ensures) (document_read c.args.files.now c.in_ok-trees.trees c.in_ok-trees.ensures.trees))) in
    IfOk-weaker c.flat_planned.result _ (λ flat. ComesToUnder c.args.files.now (Ok settings) c.args.name.now (has_tree flat))
    (λ flat is. (planned (plan_view c.as_slice-plan.result.now), plan, is)) c.flat_planned.ensures.ok

pub returns-in-Ok-clause-stop : goal.returns-in-Ok-clause-stop
returns-in-Ok-clause-stop g c settings =
    let text = map.get c.args.files.now resolver_path in
    let plan = subst (λ (l : List PlanPerm). Plans text (planned (plan_view l))) (sym c.as_slice-plan.ensures)
    (c.in-Ok.ensures.plan text (subst (IsRead text) (sym c.get.ensures) (document_read c.args.files.now c.in_ok-trees.trees c.in_ok-trees.ensures.trees))) in
    IfErr-weaker c.flat_planned.result _ (IsStop (ComesToUnder c.args.files.now (Ok settings) c.args.name.now))
    (λ s is. stops_under c.args.files.now c.args.name.now settings (plan_view c.as_slice-plan.result.now) plan s is) c.flat_planned.ensures.stop

pub returns-in-Ok-clause-parses : goal.returns-in-Ok-clause-parses
returns-in-Ok-clause-parses g c settings w is =
    let text = map.get c.args.files.now resolver_path in
    let plan = subst (λ (l : List PlanPerm). Plans text (planned (plan_view l))) (sym c.as_slice-plan.ensures)
    (c.in-Ok.ensures.plan text (subst (IsRead text) (sym c.get.ensures) (document_read c.args.files.now c.in_ok-trees.trees c.in_ok-trees.ensures.trees))) in
    read_within c.args.files.now settings c.file_plan_laws.ensures.one (plan_view c.as_slice-plan.result.now) c.args.parses.now c.read_resolver.new.parses c.flat_planned.new.parses
    plan c.in_ok-trees.ensures.steps c.flat_planned.ensures.parses w is

pub returns-clause-stop : goal.returns-clause-stop
returns-clause-stop g c settings =
    let text = map.get c.args.files.now resolver_path in
    subst (IsStop (ComesToUnder c.args.files.now (Ok settings) c.args.name.now)) (sym c.unplanned.ensures)
    (plan_stops c.args.files.now c.args.name.now settings c.in-Err.refusal
    (c.in-Err.ensures.refused text (subst (IsRead text) (sym c.get.ensures) (document_read c.args.files.now c.in_ok-trees.trees c.in_ok-trees.ensures.trees))))

pub returns-clause-parses : goal.returns-clause-parses
returns-clause-parses g c settings w is =
    document_within c.args.files.now settings c.args.parses.now c.read_resolver.new.parses c.read_resolver.ensures.at_most w is

pub returns-in_err-trees-clause-stop : goal.returns-in_err-trees-clause-stop
returns-in_err-trees-clause-stop g c settings =
    memory_stops c.from_residual.result (ComesToUnder c.args.files.now (Ok settings) c.args.name.now) c.from_residual.ensures.1

pub returns-in_err-trees-clause-parses : goal.returns-in_err-trees-clause-parses
returns-in_err-trees-clause-parses g c settings w is =
    document_within c.args.files.now settings c.args.parses.now c.read_resolver.new.parses c.read_resolver.ensures.at_most w is
