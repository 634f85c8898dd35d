use Rattle.std.proofs.Common.{◌≡◌, ◌+◌, List, drop, take, sym, ap, subst, ◌∙◌, arith}
use Rattle.file_plan.specs.View.{plan_perm_view, plan_view}
use Rattle.build_plain.specs.Breaks.{home_of}
use Rattle.build_plain.specs.Work.{added, work}
use Rattle.build_plain.specs.inner.Making.{AllKnown, AllStand}
use Rattle.build_plain.proofs.Works.{added_more, added_none}
use Rattle.source_trees.proofs.NamedTrees.{next_perms, no_perms}
use Rattle.rebuild_core.specs.declared.past.Shared.{Shared}
use Rattle.rebuild_core.specs.inner.Merging.{done_view}
use Rattle.rebuild_core.specs.inner.Past.{CameTo}
use Rattle.rebuild_core.specs.inner.Renewing.{all_view}
use Rattle.rebuild_core.proofs.PermsDone.{done_start, done_next, done_end, most_start, most_next, most_end, come_more, come_start, come_end, view_more}
use Rattle.rebuild_core.proofs.plan_perms.renewed_perms.Goals as goal

pub renewed_perm-requires : goal.renewed_perm-requires
renewed_perm-requires g c =
    let files = c.args.files.now in
    let next = next_perms c.args.plan.now c.loop-perm.perm-index c.perm-item.result c.loop-perm-test.true c.perm-item.is in
    record {
      stand = (subst (AllStand files) next c.loop-perm.invariant.stand).0;
      known = (subst (AllKnown files c.args.shapes.now) next c.loop-perm.invariant.known).0;
      front = c.loop-perm.invariant.front;
      last = c.last_tree-last.ensures c.args.cfg.now files (plan_view (take c.loop-perm.perm-index c.args.plan.now)) (subst (λ (l : List Shared). CameTo c.args.cfg.now files (plan_view (take c.loop-perm.perm-index c.args.plan.now)) l) (sym c.as_slice-so_far.ensures.value) c.loop-perm.invariant.came);
      past = c.requires.past;
    }

pub loop-perm-init : goal.loop-perm-init
loop-perm-init g c =
    let start = work 0 c.args.merges.now c.args.evals.now in
    record {
      stand = c.requires.stand;
      known = c.requires.known;
      front = c.none-front.ensures c.args.shapes.now (home_of c.args.files.now);
      came = come_start c.args.cfg.now c.args.files.now c.args.plan.now c.new.result.items c.new.ensures.items;
      done = λ before is. done_start before c.args.cfg.now c.args.files.now (plan_view c.args.plan.now);
      counted = added_none start;
      most = λ before is. most_start before c.args.cfg.now c.args.files.now (plan_view c.args.plan.now) start;
    }

pub loop-perm-preserved : goal.loop-perm-preserved
loop-perm-preserved g c =
    let files = c.args.files.now in
    let cfg = c.args.cfg.now in
    let plan = c.args.plan.now in
    let i = c.loop-perm.perm-index in
    let p = c.perm-item.result in
    let rest = plan_view (drop i plan) in
    let others = plan_view (drop (i + 1) plan) in
    let start = work 0 c.args.merges.now c.args.evals.now in
    let before = work 0 c.loop-perm.merges c.loop-perm.evals in
    let after = work 0 c.renewed_perm.new.merges c.renewed_perm.new.evals in
    let next = next_perms plan i p c.loop-perm-test.true c.perm-item.is in
    let more : all_view c.add.new.self ≡ added (all_view c.loop-perm.all) (done_view c.in_ok-done.done) =
    view_more (all_view c.loop-perm.all) (done_view c.in_ok-done.done) (all_view c.add.new.self) (omega arith) c.in_ok-add.ensures.merged c.in_ok-add.ensures.evaluated in
    record {
      stand = (subst (AllStand files) next c.loop-perm.invariant.stand).1;
      known = (subst (AllKnown files c.args.shapes.now) next c.loop-perm.invariant.known).1;
      front = c.renewed_perm.ensures.front;
      came = come_more cfg files plan i p c.loop-perm.all.outcomes.items c.add.new.self.outcomes.items c.in_ok-done.done.shared c.loop-perm-test.true c.perm-item.is c.loop-perm.invariant.came
          c.in_ok-done.ensures.outcome c.in_ok-add.ensures.outcomes;
      done = λ old is.
          done_next old cfg files (plan_view plan) rest (plan_perm_view p) others (all_view c.loop-perm.all) (all_view c.add.new.self) (done_view c.in_ok-done.done) next (c.loop-perm.invariant.done old is)
          (c.in_ok-done.ensures.work old is) more;
      counted = c.in_ok-done.ensures.counted ∙ (ap (λ x. added x (done_view c.in_ok-done.done)) c.loop-perm.invariant.counted
          ∙ (sym (added_more start (all_view c.loop-perm.all) (done_view c.in_ok-done.done)) ∙ ap (added start) (sym more)));
      most = λ old is.
          most_next old cfg files (plan_view plan) start rest (plan_perm_view p) others before after next (c.loop-perm.invariant.most old is) (c.renewed_perm.ensures.at_most old is);
    }

pub returns-in_err-done-clause-at_most : goal.returns-in_err-done-clause-at_most
returns-in_err-done-clause-at_most g c = λ old is.
    let plan = c.args.plan.now in
    let i = c.loop-perm.perm-index in
    let p = c.perm-item.result in
    let start = work 0 c.args.merges.now c.args.evals.now in
    let before = work 0 c.loop-perm.merges c.loop-perm.evals in
    let after = work 0 c.renewed_perm.new.merges c.renewed_perm.new.evals in
    let others = plan_view (drop (i + 1) plan) in
    most_end old c.args.cfg.now c.args.files.now (plan_view plan) start others after
    (most_next old c.args.cfg.now c.args.files.now (plan_view plan) start (plan_view (drop i plan)) (plan_perm_view p) others before after
    (next_perms plan i p c.loop-perm-test.true c.perm-item.is) (c.loop-perm.invariant.most old is) (c.renewed_perm.ensures.at_most old is))

pub returns-in_err-add-clause-at_most : goal.returns-in_err-add-clause-at_most
returns-in_err-add-clause-at_most g c = λ old is.
    let plan = c.args.plan.now in
    let i = c.loop-perm.perm-index in
    let p = c.perm-item.result in
    let start = work 0 c.args.merges.now c.args.evals.now in
    let before = work 0 c.loop-perm.merges c.loop-perm.evals in
    let after = work 0 c.renewed_perm.new.merges c.renewed_perm.new.evals in
    let others = plan_view (drop (i + 1) plan) in
    most_end old c.args.cfg.now c.args.files.now (plan_view plan) start others after
    (most_next old c.args.cfg.now c.args.files.now (plan_view plan) start (plan_view (drop i plan)) (plan_perm_view p) others before after
    (next_perms plan i p c.loop-perm-test.true c.perm-item.is) (c.loop-perm.invariant.most old is) (c.renewed_perm.ensures.at_most old is))

pub returns : goal.returns
returns g c =
    let plan = c.args.plan.now in
    let i = c.loop-perm.perm-index in
    record {
      outcomes = come_end c.args.cfg.now c.args.files.now plan i c.loop-perm.all.outcomes.items c.loop-perm-test.false c.loop-perm.invariant.came;
      work = λ old is.
          done_end old c.args.cfg.now c.args.files.now (plan_view plan) (plan_view (drop i plan)) (all_view c.loop-perm.all) (no_perms plan i c.loop-perm-test.false) (c.loop-perm.invariant.done old is);
      counted = c.loop-perm.invariant.counted;
      at_most = λ old is.
          most_end old c.args.cfg.now c.args.files.now (plan_view plan) (work 0 c.args.merges.now c.args.evals.now) (plan_view (drop i plan)) (work 0 c.loop-perm.merges c.loop-perm.evals)
          (c.loop-perm.invariant.most old is);
    }
