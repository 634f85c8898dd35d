use Rattle.std.proofs.Common.{◌+◌, drop, refl, subst}
use Rattle.file_plan.specs.View.{plan_perm_view, plan_view}
use Rattle.build_plain.specs.Work.{work}
use Rattle.build_plain.specs.inner.Making.{AllKnown, AllStand}
use Rattle.source_trees.proofs.NamedTrees.{next_perms, no_perms}
use Rattle.build_plain.proofs.Perms.{done_next, done_end, most_next, most_end, most_stop}
use Rattle.build_plain.proofs.Works.{same_within}
use Rattle.build_plain.proofs.making.make_perms.Goals as goal

pub perm_outcome-requires : goal.perm_outcome-requires
perm_outcome-requires g c =
    let files = c.args.files.now in
    let next = next_perms c.args.plan.now c.loop-perm.perm-index c.perm-item.result c.loop-perm-test.true c.perm-item.is in
    record {
      stand = (subst (AllStand files) next c.loop-perm.invariant.stand).0;
      known = (subst (AllKnown files c.args.shapes.now) next c.loop-perm.invariant.known).0;
    }

pub add-requires : goal.add-requires
add-requires g c =
    let files = c.args.files.now in
    let next = next_perms c.args.plan.now c.loop-perm.perm-index c.perm-item.result c.loop-perm-test.true c.perm-item.is in
    let stand = (subst (AllStand files) next c.loop-perm.invariant.stand).0 in
    let known = (subst (AllKnown files c.args.shapes.now) next c.loop-perm.invariant.known).0 in
    λ k. ((refl, tt), (c.in_ok-outcome.ensures.ok, (stand, known)))

pub loop-perm-init : goal.loop-perm-init
loop-perm-init g c = record {
  stand = c.requires.stand;
  known = c.requires.known;
  making = c.start-made.ensures.begins c.args.cfg.now c.args.files.now (plan_view c.args.plan.now) c.requires.trees c.requires.apart;
  done = λ w i. (w, i, refl);
  most = λ v i. (v, i, same_within refl);
}

pub loop-perm-preserved : goal.loop-perm-preserved
loop-perm-preserved g c =
    let files = c.args.files.now in
    let plan = c.args.plan.now in
    let i = c.loop-perm.perm-index in
    let p = c.perm-item.result in
    let rest = plan_view (drop i plan) in
    let others = plan_view (drop (i + 1) plan) in
    let start = work 0 c.args.merges.now c.args.evals.now in
    let before = work 0 c.loop-perm.merges c.loop-perm.evals in
    let after = work 0 c.perm_outcome.new.merges c.perm_outcome.new.evals in
    let next = next_perms plan i p c.loop-perm-test.true c.perm-item.is in
    record {
      stand = (subst (AllStand files) next c.loop-perm.invariant.stand).1;
      known = (subst (AllKnown files c.args.shapes.now) next c.loop-perm.invariant.known).1;
      making = c.in_ok-add.ensures (plan_view plan) others (subst (λ ps. g.T.Made.is_making c.args.cfg.now files (plan_view plan) ps c.loop-perm.made) next c.loop-perm.invariant.making);
      done = done_next files (plan_view plan) start rest (plan_perm_view p) others before after next c.loop-perm.invariant.done c.in_ok-outcome.ensures.work;
      most = most_next files (plan_view plan) start rest (plan_perm_view p) others before after next c.loop-perm.invariant.most c.perm_outcome.ensures.at_most;
    }

pub returns-in_err-outcome-clause-at_most : goal.returns-in_err-outcome-clause-at_most
returns-in_err-outcome-clause-at_most g c =
    let plan = c.args.plan.now in
    let i = c.loop-perm.perm-index in
    let p = c.perm-item.result in
    most_stop c.args.files.now (plan_view plan) (work 0 c.args.merges.now c.args.evals.now) (plan_view (drop i plan)) (plan_perm_view p) (plan_view (drop (i + 1) plan))
    (work 0 c.loop-perm.merges c.loop-perm.evals) (work 0 c.perm_outcome.new.merges c.perm_outcome.new.evals)
    (next_perms plan i p c.loop-perm-test.true c.perm-item.is) c.loop-perm.invariant.most c.perm_outcome.ensures.at_most

pub returns-in_err-add-clause-at_most : goal.returns-in_err-add-clause-at_most
returns-in_err-add-clause-at_most g c =
    let plan = c.args.plan.now in
    let i = c.loop-perm.perm-index in
    let p = c.perm-item.result in
    most_stop c.args.files.now (plan_view plan) (work 0 c.args.merges.now c.args.evals.now) (plan_view (drop i plan)) (plan_perm_view p) (plan_view (drop (i + 1) plan))
    (work 0 c.loop-perm.merges c.loop-perm.evals) (work 0 c.perm_outcome.new.merges c.perm_outcome.new.evals)
    (next_perms plan i p c.loop-perm-test.true c.perm-item.is) c.loop-perm.invariant.most c.perm_outcome.ensures.at_most

pub returns-clause-ok : goal.returns-clause-ok
returns-clause-ok g c =
    let plan = c.args.plan.now in
    let i = c.loop-perm.perm-index in
    c.start-made.ensures.ends c.args.cfg.now c.args.files.now (plan_view plan) c.loop-perm.made c.requires.plan
    (subst (λ ps. g.T.Made.is_making c.args.cfg.now c.args.files.now (plan_view plan) ps c.loop-perm.made) (no_perms plan i c.loop-perm-test.false) c.loop-perm.invariant.making)

pub returns-clause-work : goal.returns-clause-work
returns-clause-work g c =
    let plan = c.args.plan.now in
    let i = c.loop-perm.perm-index in
    done_end c.args.files.now (plan_view plan) (work 0 c.args.merges.now c.args.evals.now) (plan_view (drop i plan)) (work 0 c.loop-perm.merges c.loop-perm.evals)
    (no_perms plan i c.loop-perm-test.false) c.loop-perm.invariant.done

pub returns-clause-at_most : goal.returns-clause-at_most
returns-clause-at_most g c =
    let plan = c.args.plan.now in
    most_end c.args.files.now (plan_view plan) (work 0 c.args.merges.now c.args.evals.now) (plan_view (drop c.loop-perm.perm-index plan))
    (work 0 c.loop-perm.merges c.loop-perm.evals) c.loop-perm.invariant.most
