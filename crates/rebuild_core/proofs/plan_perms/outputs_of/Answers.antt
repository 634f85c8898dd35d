use Rattle.std.proofs.Common.{◌+◌, ◌<◌, Some, drop, length, sym, ap, ◌∙◌, arith}
use Rattle.std.proofs.lemmas.Option.{slice_get-get_or}
use Rattle.file_plan.specs.View.{plan_perm_view, plan_view}
use Rattle.build_plain.specs.Outcomes.{IsOutcome}
use Rattle.build_plain.proofs.Perms.{given_start, given_next, given_end}
use Rattle.source_trees.proofs.NamedTrees.{next_perms, no_perms}
use Rattle.rebuild_core.specs.inner.Past.{outcome_of}
use Rattle.rebuild_core.proofs.PermsDone.{came_long}
use Rattle.rebuild_core.proofs.ZippedLists.{zipped_at, mapped_at}
use Rattle.rebuild_core.proofs.plan_perms.outputs_of.Goals as goal

pub loop-i-init : goal.loop-i-init
loop-i-init c = given_start c.args.cfg.now c.args.files.now (plan_view c.args.plan.now) c.new-outputs.result c.new-outputs.ensures

pub bounds-outcomes-i : goal.bounds-outcomes-i
bounds-outcomes-i c = omega (arith, c.loop-i-test.true, came_long c.args.cfg.now c.args.files.now c.args.plan.now c.args.outcomes.now c.requires)

pub put_shared-requires : goal.put_shared-requires
put_shared-requires c =
    let plan = c.args.plan.now in
    let outcomes = c.args.outcomes.now in
    let i = c.loop-i.i in
    let p = c.index-plan-i.result in
    let s = c.index-outcomes-i.result in
    let within : i < length outcomes = omega (arith, c.loop-i-test.true, came_long c.args.cfg.now c.args.files.now plan outcomes c.requires) in
    zipped_at (λ q t. IsOutcome c.args.cfg.now c.args.files.now q (outcome_of t)) (plan_view plan) outcomes i (plan_perm_view p) s c.requires
    (mapped_at plan_perm_view plan i p (slice_get-get_or plan i p c.loop-i-test.true ∙ ap Some (sym c.index-plan-i.is)))
    (slice_get-get_or outcomes i s within ∙ ap Some (sym c.index-outcomes-i.is))

pub loop-i-preserved : goal.loop-i-preserved
loop-i-preserved c =
    let plan = c.args.plan.now in
    let i = c.loop-i.i in
    let p = c.index-plan-i.result in
    let next = next_perms plan i p c.loop-i-test.true c.index-plan-i.is in
    given_next c.args.cfg.now c.args.files.now (plan_view plan) (plan_view (drop i plan)) (plan_perm_view p) (plan_view (drop (i + 1) plan)) c.loop-i.outputs c.put_shared.new.outputs next
    c.loop-i.invariant c.in_ok-put_shared.ensures

pub returns : goal.returns
returns c =
    let plan = c.args.plan.now in
    let i = c.loop-i.i in
    given_end c.args.cfg.now c.args.files.now (plan_view plan) (plan_view (drop i plan)) c.loop-i.outputs (no_perms plan i c.loop-i-test.false) c.loop-i.invariant
