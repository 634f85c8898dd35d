use Rattle.std.proofs.Common.{◌≡◌, ◌+◌, List, [], Ok, sym, ap, subst, ◌∙◌, arith}
use Rattle.std.proofs.lemmas.Result.{IfOk-weaker}
use Rattle.std.specs.FinMap as finite
use Rattle.tk_io.specs.FilesData.{FilesData}
use Rattle.file_plan.specs.InUse.{files_in_use, resolver_path}
use Rattle.file_plan.specs.View.{plan_view}
use Rattle.file_plan.specs.declared.source.PlanPerm.{PlanPerm}
use Rattle.build_plain.specs.Out.{BuildsUnder}
use Rattle.build_plain.specs.Work.{added, work}
use Rattle.build_plain.proofs.Planned.{has_break, some_break, under_refusal}
use Rattle.build_plain.proofs.Works.{work_same}
use Rattle.rebuild_core.specs.inner.Reading.{AreInUse, ReadOthers}
use Rattle.rebuild_core.proofs.FilesWork.{first_within, refused_done, refused_within}
use Rattle.rebuild_core.proofs.MadePasts.{unplanned_renewed}
use Rattle.rebuild_core.proofs.PermWorks.{if_both}
use Rattle.rebuild_core.proofs.renewing.unplanned.Goals as goal

pub in_use-requires : goal.in_use-requires
in_use-requires g c = record { past = c.requires.past.1.trees; shapes = c.requires.past.1.shapes; trees = c.requires.trees }

pub returns-in_err-outputs-clause-at_most : goal.returns-in_err-outputs-clause-at_most
returns-in_err-outputs-clause-at_most g c = λ before start m e is begun.
    first_within before c.args.cfg c.args.files.now c.args.past.now.used is.used c.laws_below.ensures.one start c.args.parses.now m e c.args.first c.requires.first (omega (arith, begun))

pub returns-in_err-now-clause-at_most : goal.returns-in_err-now-clause-at_most
returns-in_err-now-clause-at_most g c = λ before start m e is begun.
    let files = c.args.files.now in
    let none : c.as_slice.result.now ≡ [] = c.as_slice.ensures ∙ c.new-none.ensures in
    let broken = some_break (finite.get files resolver_path) c.args.refusal.now c.requires.refused (has_break files c.args.refusal.now c.in_ok-outputs.outputs c.in_ok-outputs.ensures) in
    refused_within before c.args.cfg files c.args.past.now.used is.used c.laws_below.ensures.one broken.broken start c.in_use.new.parses m e c.args.first broken.is c.requires.first
    (λ n others. omega (arith, begun, c.in_use.ensures.at_most n (subst (λ (l : List PlanPerm). ReadOthers c.args.past.now.used (files_in_use files (plan_view l)) n) (sym none) others)))

pub returns-clause-renewed : goal.returns-clause-renewed
returns-clause-renewed g c =
    let files = c.args.files.now in
    let none : c.as_slice.result.now ≡ [] = c.as_slice.ensures ∙ c.new-none.ensures in
    let broken = some_break (finite.get files resolver_path) c.args.refusal.now c.requires.refused (has_break files c.args.refusal.now c.in_ok-outputs.outputs c.in_ok-outputs.ensures) in
    let are = subst (λ (l : List PlanPerm). AreInUse files (plan_view l) c.in_ok-now.now) none c.in_ok-now.ensures.are in
    if_both c.bare_renewed.result c.bare_renewed.ensures.past c.bare_renewed.ensures.outputs
    (λ r bare same.
    unplanned_renewed files c.args.cfg broken.broken c.in_ok-now.now broken.is are r bare
    (subst (λ (o : FilesData). BuildsUnder files (Ok c.args.cfg) o) (sym same) (under_refusal files c.args.cfg c.args.refusal.now c.in_ok-outputs.outputs c.requires.refused c.in_ok-outputs.ensures)))

pub returns-clause-work : goal.returns-clause-work
returns-clause-work g c = λ before is.
    let files = c.args.files.now in
    let none : c.as_slice.result.now ≡ [] = c.as_slice.ensures ∙ c.new-none.ensures in
    let broken = some_break (finite.get files resolver_path) c.args.refusal.now c.requires.refused (has_break files c.args.refusal.now c.in_ok-outputs.outputs c.in_ok-outputs.ensures) in
    let others = subst (λ (l : List PlanPerm). ReadOthers c.args.past.now.used (files_in_use files (plan_view l)) c.in_ok-now.now.read) none c.in_ok-now.ensures.count in
    IfOk-weaker c.bare_renewed.result _ _
    (λ r counts. refused_done before c.args.cfg files c.args.past.now.used is.used broken.broken c.args.first c.in_ok-now.now.read _ broken.is c.requires.first others counts) c.bare_renewed.ensures.counts

pub returns-clause-counted : goal.returns-clause-counted
returns-clause-counted g c = λ start m e begun.
    IfOk-weaker c.bare_renewed.result _ _
    (λ r counts.
    work_same {p = c.in_use.new.parses} {q = start + (c.args.first + c.in_ok-now.now.read)} {m = m} {n = m + 0} {e = e} {f = e + 0} (omega (arith, begun, c.in_ok-now.ensures.step)) (omega arith) (omega arith)
    ∙ ap (added (work start m e)) (sym counts))
    c.bare_renewed.ensures.counts

pub returns-clause-at_most : goal.returns-clause-at_most
returns-clause-at_most g c = λ before start m e is begun.
    let files = c.args.files.now in
    let none : c.as_slice.result.now ≡ [] = c.as_slice.ensures ∙ c.new-none.ensures in
    let broken = some_break (finite.get files resolver_path) c.args.refusal.now c.requires.refused (has_break files c.args.refusal.now c.in_ok-outputs.outputs c.in_ok-outputs.ensures) in
    refused_within before c.args.cfg files c.args.past.now.used is.used c.laws_below.ensures.one broken.broken start c.in_use.new.parses m e c.args.first broken.is c.requires.first
    (λ n others. omega (arith, begun, c.in_use.ensures.at_most n (subst (λ (l : List PlanPerm). ReadOthers c.args.past.now.used (files_in_use files (plan_view l)) n) (sym none) others)))
