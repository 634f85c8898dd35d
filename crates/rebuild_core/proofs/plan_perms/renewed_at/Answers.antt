use Rattle.std.proofs.Common.{Some, option_map, sym, ap, subst, ◌∙◌}
use Rattle.std.proofs.lemmas.Result.{IfOk-weaker}
use Rattle.file_plan.specs.View.{plan_perm_view}
use Rattle.build_plain.specs.Outcomes.{HoldsCells, merge_in}
use Rattle.build_plain.specs.Work.{work}
use Rattle.rebuild_core.specs.Work.{contents_of, kept_perm}
use Rattle.rebuild_core.specs.inner.Merging.{done_view, flat_of}
use Rattle.rebuild_core.specs.inner.Past.{outcome_of}
use Rattle.rebuild_core.proofs.OldPerms.{again, comes, holds, is_kept, kept_beside, kept_within, old_at, old_within, perm_within, perm_work, under}
use Rattle.rebuild_core.proofs.plan_perms.renewed_at.Goals as goal

pub bounds-plan-i : goal.bounds-plan-i
bounds-plan-i g c = old_within c.args.past.now c.args.perm.now.name c.args.i c.requires.there c.as_slice-plan.result.now c.as_slice-plan.ensures

pub bounds-outcomes-i : goal.bounds-outcomes-i
bounds-outcomes-i g c =
    kept_within c.args.past.now c.args.perm.now.name c.args.i c.requires.there c.requires.past.0 c.requires.past.1 c.as_slice-outcomes.result.now c.as_slice-outcomes.ensures.value

pub returns-then-is_same-clause-outcome : goal.returns-then-is_same-clause-outcome
returns-then-is_same-clause-outcome g c =
    let past = c.args.past.now in
    let p = plan_perm_view c.args.perm.now in
    let old = c.index-plan-i.result in
    let kept = c.index-outcomes-i.result in
    let at = old_at past c.args.perm.now.name c.args.i c.requires.there c.as_slice-plan.result.now old c.as_slice-plan.ensures c.index-plan-i.is in
    let beside = kept_beside past c.args.perm.now.name c.args.i c.requires.there c.requires.past.0 c.requires.past.1 c.as_slice-outcomes.result.now kept c.as_slice-outcomes.ensures.value c.index-outcomes-i.is in
    let same = c.holds_the_same-is_same.ensures.same c.if-is_same.true in
    c.kept_again.ensures.outcome c.args.files.now p
    (comes past c.args.perm.now.name c.args.i c.requires.there old kept at beside c.requires.past.0 c.requires.past.1 c.merged_by_content.ensures.found c.laws_below.ensures.each.found c.args.files.now p same c.requires.stand)

pub returns-then-is_same-clause-work : goal.returns-then-is_same-clause-work
returns-then-is_same-clause-work g c = λ before is.
    let past = c.args.past.now in
    let name = c.args.perm.now.name in
    let p = plan_perm_view c.args.perm.now in
    let old = c.index-plan-i.result in
    let kept = c.index-outcomes-i.result in
    let at = old_at past name c.args.i c.requires.there c.as_slice-plan.result.now old c.as_slice-plan.ensures c.index-plan-i.is in
    let beside = kept_beside past name c.args.i c.requires.there before is c.as_slice-outcomes.result.now kept c.as_slice-outcomes.ensures.value c.index-outcomes-i.is in
    let same = c.holds_the_same-is_same.ensures.same c.if-is_same.true in
    IfOk-weaker c.kept_again.result _ _
    (λ done of. perm_work before c.args.cfg.now c.args.files.now p _ (is_kept past name c.args.i c.requires.there old kept at beside before is) (done_view done) of)
    (c.kept_again.ensures.work c.args.files.now p _
    (again past name c.args.i c.requires.there old kept at beside before is c.merged_by_content.ensures.found c.laws_below.ensures.each.found c.args.files.now p same c.requires.stand))

pub returns-then-is_same-clause-counted : goal.returns-then-is_same-clause-counted
returns-then-is_same-clause-counted g c = IfOk-weaker c.kept_again.result _ _ (λ done counted. counted c.args.merges.now) c.kept_again.ensures.counted

pub returns-then-is_same-clause-at_most : goal.returns-then-is_same-clause-at_most
returns-then-is_same-clause-at_most g c = λ before is.
    let past = c.args.past.now in
    let name = c.args.perm.now.name in
    let p = plan_perm_view c.args.perm.now in
    let old = c.index-plan-i.result in
    let kept = c.index-outcomes-i.result in
    let at = old_at past name c.args.i c.requires.there c.as_slice-plan.result.now old c.as_slice-plan.ensures c.index-plan-i.is in
    let beside = kept_beside past name c.args.i c.requires.there before is c.as_slice-outcomes.result.now kept c.as_slice-outcomes.ensures.value c.index-outcomes-i.is in
    let same = c.holds_the_same-is_same.ensures.same c.if-is_same.true in
    perm_within before c.args.cfg.now c.args.files.now p _ (is_kept past name c.args.i c.requires.there old kept at beside before is) c.laws_below.ensures.one
    (work 0 c.args.merges.now c.args.evals.now) (work 0 c.args.merges.now c.kept_again.new.evals)
    (c.kept_again.ensures.at_most c.args.files.now p _ c.args.merges.now
    (again past name c.args.i c.requires.there old kept at beside before is c.merged_by_content.ensures.found c.laws_below.ensures.each.found c.args.files.now p same c.requires.stand))

pub merged_anew-requires : goal.merged_anew-requires
merged_anew-requires g c =
    let past = c.args.past.now in
    let name = c.args.perm.now.name in
    let old = c.index-plan-i.result in
    let kept = c.index-outcomes-i.result in
    let at = old_at past name c.args.i c.requires.there c.as_slice-plan.result.now old c.as_slice-plan.ensures c.index-plan-i.is in
    let beside = kept_beside past name c.args.i c.requires.there c.requires.past.0 c.requires.past.1 c.as_slice-outcomes.result.now kept c.as_slice-outcomes.ensures.value c.index-outcomes-i.is in
    record {
      stand = c.requires.stand;
      known = c.requires.known;
      front = c.requires.front;
      old = c.tree_under-tree.ensures.cells
          (subst (HoldsCells past.config) (sym c.outcome.ensures) (holds past name c.args.i c.requires.there old kept at beside c.requires.past.0 c.requires.past.1));
      last = c.requires.last;
    }

pub returns-clause-work : goal.returns-clause-work
returns-clause-work g c = λ before is.
    let past = c.args.past.now in
    let name = c.args.perm.now.name in
    let p = plan_perm_view c.args.perm.now in
    let old = c.index-plan-i.result in
    let kept = c.index-outcomes-i.result in
    let at = old_at past name c.args.i c.requires.there c.as_slice-plan.result.now old c.as_slice-plan.ensures c.index-plan-i.is in
    let beside = kept_beside past name c.args.i c.requires.there before is c.as_slice-outcomes.result.now kept c.as_slice-outcomes.ensures.value c.index-outcomes-i.is in
    let tree = option_map (λ t. t.now.tokens) c.tree_under-tree.result in
    let under_tree = under past name c.args.i c.requires.there old kept at beside before is c.args.cfg.now tree
    (λ e. c.tree_under-tree.ensures.same e ∙ ap flat_of c.outcome.ensures) c.tree_under-tree.ensures.other in
    IfOk-weaker c.merged_anew.result _ _
    (λ done of. perm_work before c.args.cfg.now c.args.files.now p _ (is_kept past name c.args.i c.requires.there old kept at beside before is) (done_view done) of)
    (c.merged_anew.ensures.work (Some (kept_perm past.config (contents_of past.files (plan_perm_view old)) (merge_in (outcome_of kept)))) under_tree (c.holds_the_same-is_same.ensures.other c.if-is_same.false))

pub returns-clause-at_most : goal.returns-clause-at_most
returns-clause-at_most g c = λ before is.
    let past = c.args.past.now in
    let name = c.args.perm.now.name in
    let p = plan_perm_view c.args.perm.now in
    let old = c.index-plan-i.result in
    let kept = c.index-outcomes-i.result in
    let at = old_at past name c.args.i c.requires.there c.as_slice-plan.result.now old c.as_slice-plan.ensures c.index-plan-i.is in
    let beside = kept_beside past name c.args.i c.requires.there before is c.as_slice-outcomes.result.now kept c.as_slice-outcomes.ensures.value c.index-outcomes-i.is in
    let tree = option_map (λ t. t.now.tokens) c.tree_under-tree.result in
    let under_tree = under past name c.args.i c.requires.there old kept at beside before is c.args.cfg.now tree
    (λ e. c.tree_under-tree.ensures.same e ∙ ap flat_of c.outcome.ensures) c.tree_under-tree.ensures.other in
    perm_within before c.args.cfg.now c.args.files.now p _ (is_kept past name c.args.i c.requires.there old kept at beside before is) c.laws_below.ensures.one
    (work 0 c.args.merges.now c.args.evals.now) (work 0 c.merged_anew.new.merges c.merged_anew.new.evals)
    (c.merged_anew.ensures.at_most (Some (kept_perm past.config (contents_of past.files (plan_perm_view old)) (merge_in (outcome_of kept)))) under_tree (c.holds_the_same-is_same.ensures.other c.if-is_same.false))
