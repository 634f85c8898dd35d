use Rattle.std.proofs.Common.{◌+◌, Some, drop, refl, sym, ap, ◌∙◌}
use Rattle.std.proofs.lemmas.Option.{slice_get-get_or}
use Rattle.std.specs.Str.{bytes_eq}
use Rattle.file_plan.specs.View.{plan_perm_view, plan_view}
use Rattle.rebuild_core.specs.Work.{named}
use Rattle.source_trees.proofs.NamedTrees.{next_perms, no_perms}
use Rattle.rebuild_core.proofs.NamedPlaces.{found_here, not_here}
use Rattle.rebuild_core.proofs.plan_perms.place_named.Goals as goal

pub loop-i-init : goal.loop-i-init
loop-i-init c = refl

pub loop-i-preserved : goal.loop-i-preserved
loop-i-preserved c =
    let plan = c.args.plan.now in
    let i = c.loop-i.i in
    let p = c.index-plan-i.result in
    let next = next_perms plan i p c.loop-i-test.true c.index-plan-i.is in
    let other = ap (λ n. bytes_eq n c.args.name.now) (sym c.as_str.ensures) ∙ (sym c.eq.ensures ∙ c.if-eq.false) in
    c.loop-i.invariant ∙ not_here c.args.name.now (plan_view (drop i plan)) (plan_perm_view p) (plan_view (drop (i + 1) plan)) next other

pub returns-then-eq : goal.returns-then-eq
returns-then-eq c =
    let plan = c.args.plan.now in
    let i = c.loop-i.i in
    let p = c.index-plan-i.result in
    let next = next_perms plan i p c.loop-i-test.true c.index-plan-i.is in
    let same = ap (λ n. bytes_eq n c.args.name.now) (sym c.as_str.ensures) ∙ (sym c.eq.ensures ∙ c.if-eq.true) in
    record {
      perm = p;
      there = slice_get-get_or plan i p c.loop-i-test.true ∙ ap Some (sym c.index-plan-i.is);
      is = c.loop-i.invariant ∙ found_here c.args.name.now (plan_view (drop i plan)) (plan_perm_view p) (plan_view (drop (i + 1) plan)) next same;
    }

pub returns : goal.returns
returns c = c.loop-i.invariant ∙ ap (named c.args.name.now) (no_perms c.args.plan.now c.loop-i.i c.loop-i-test.false)
