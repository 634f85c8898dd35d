use Rattle.std.proofs.Common.{◌≡◌, ℕ, List, Option, None, MatchOption, refl, subst}
use Rattle.std.proofs.lemmas.Result.{IfOk-weaker}
use Rattle.file_plan.specs.View.{plan_perm_view, plan_view}
use Rattle.file_plan.specs.declared.source.PlanPerm.{PlanPerm}
use Rattle.build_plain.specs.Work.{work}
use Rattle.rebuild_core.specs.Work.{named}
use Rattle.rebuild_core.specs.inner.Merging.{IsNamedAt, done_view}
use Rattle.rebuild_core.proofs.OldPerms.{none_named, perm_within, perm_work}
use Rattle.rebuild_core.proofs.plan_perms.renewed_perm.Goals as goal

pub renewed_at-requires : goal.renewed_at-requires
renewed_at-requires g c =
    let found = subst (λ (r : Option ℕ). MatchOption r (named c.as_str.result.now (plan_view c.as_slice.result.now) ≡ None) (λ i. IsNamedAt c.as_slice.result.now c.as_str.result.now i)) c.in-Some.is c.place_named.ensures in
    record {
      stand = c.requires.stand;
      known = c.requires.known;
      front = c.requires.front;
      last = c.requires.last;
      past = c.requires.past;
      there = subst (λ (n : List ℕ). IsNamedAt c.args.past.now.plan n c.in-Some.i) c.as_str.ensures (subst (λ (l : List PlanPerm). IsNamedAt l c.as_str.result.now c.in-Some.i) c.as_slice.ensures found);
    }

pub returns-in-None-clause-work : goal.returns-in-None-clause-work
returns-in-None-clause-work g c = λ before is.
    let cfg = c.args.cfg.now in
    let files = c.args.files.now in
    let p = plan_perm_view c.args.perm.now in
    let found = subst (λ (r : Option ℕ). MatchOption r (named c.as_str.result.now (plan_view c.as_slice.result.now) ≡ None) (λ i. IsNamedAt c.as_slice.result.now c.as_str.result.now i)) c.in-None.is c.place_named.ensures in
    let none = subst (λ (n : List ℕ). named n (plan_view c.args.past.now.plan) ≡ None) c.as_str.ensures (subst (λ (l : List PlanPerm). named c.as_str.result.now (plan_view l) ≡ None) c.as_slice.ensures found) in
    IfOk-weaker c.merged_anew.result _ _
    (λ done of. perm_work before cfg files p None (none_named before c.args.past.now c.args.perm.now.name is none) (done_view done) of) (c.merged_anew.ensures.work None refl (λ x. x))

pub returns-in-None-clause-at_most : goal.returns-in-None-clause-at_most
returns-in-None-clause-at_most g c = λ before is.
    let cfg = c.args.cfg.now in
    let files = c.args.files.now in
    let p = plan_perm_view c.args.perm.now in
    let found = subst (λ (r : Option ℕ). MatchOption r (named c.as_str.result.now (plan_view c.as_slice.result.now) ≡ None) (λ i. IsNamedAt c.as_slice.result.now c.as_str.result.now i)) c.in-None.is c.place_named.ensures in
    let none = subst (λ (n : List ℕ). named n (plan_view c.args.past.now.plan) ≡ None) c.as_str.ensures (subst (λ (l : List PlanPerm). named c.as_str.result.now (plan_view l) ≡ None) c.as_slice.ensures found) in
    perm_within before cfg files p None (none_named before c.args.past.now c.args.perm.now.name is none) c.laws_below.ensures.one (work 0 c.args.merges.now c.args.evals.now)
    (work 0 c.merged_anew.new.merges c.merged_anew.new.evals) (c.merged_anew.ensures.at_most None refl (λ x. x))
