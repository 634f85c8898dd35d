use Rattle.std.proofs.Common.{Ok, Result, refl, sym, ap, subst, ◌∙◌}
use Rattle.std.proofs.lemmas.Result.{IfOk-weaker}
use Rattle.transforms.specs.Config.{Settings}
use Rattle.transforms.specs.declared.config.ConfigFault.{ConfigFault}
use Rattle.build_plain.specs.Work.{added, work}
use Rattle.build_plain.proofs.Planned.{built}
use Rattle.build_plain.proofs.Works.{added_none, no_rise, within_so}
use Rattle.rebuild_core.specs.Engine.{counts_view}
use Rattle.rebuild_core.specs.Work.{IsWorkFrom, WorkUnderFrom}
use Rattle.rebuild_core.proofs.renewing.renew.Goals as goal

pub returns-in-Ok-clause-files : goal.returns-in-Ok-clause-files
returns-in-Ok-clause-files g c = IfOk-weaker c.renewed_under.result _ _ (λ r is. is.files_are) c.renewed_under.ensures.renewed

pub returns-in-Ok-clause-past : goal.returns-in-Ok-clause-past
returns-in-Ok-clause-past g c = IfOk-weaker c.renewed_under.result _ _ (λ r is. is.past c.in-Ok.ensures.ok) c.renewed_under.ensures.renewed

pub returns-in-Ok-clause-outputs : goal.returns-in-Ok-clause-outputs
returns-in-Ok-clause-outputs g c =
    IfOk-weaker c.renewed_under.result _ _ (λ r is. built c.args.files.now c.in-Ok.cfg r.outputs c.in-Ok.ensures.ok is.outputs) c.renewed_under.ensures.renewed

pub returns-in-Ok-clause-work : goal.returns-in-Ok-clause-work
returns-in-Ok-clause-work g c = λ before is.
    IfOk-weaker c.renewed_under.result _ _
    (λ r of. subst (λ (s : Result Settings ConfigFault). WorkUnderFrom before c.args.files.now s (counts_view r.counts)) (sym c.in-Ok.ensures.ok) of) (c.renewed_under.ensures.work before is)

pub returns-in-Ok-clause-at_most : goal.returns-in-Ok-clause-at_most
returns-in-Ok-clause-at_most g c = λ before is.
    let files = c.args.files.now in
    within_so (WorkUnderFrom before files (Ok c.in-Ok.cfg)) (IsWorkFrom before files) (work c.args.parses.now c.args.merges.now c.args.evals.now)
    (work c.renewed_under.new.parses c.renewed_under.new.merges c.renewed_under.new.evals)
    (λ w of. subst (λ (s : Result Settings ConfigFault). WorkUnderFrom before files s w) c.in-Ok.ensures.ok of) (c.renewed_under.ensures.at_most before is)

pub returns-in-Err-clause-files : goal.returns-in-Err-clause-files
returns-in-Err-clause-files g c = IfOk-weaker c.unconfigured.result _ _ (λ r is. is.files_are) c.unconfigured.ensures.renewed

pub returns-in-Err-clause-past : goal.returns-in-Err-clause-past
returns-in-Err-clause-past g c = IfOk-weaker c.unconfigured.result _ _ (λ r is. is.past refl) c.unconfigured.ensures.renewed

pub returns-in-Err-clause-outputs : goal.returns-in-Err-clause-outputs
returns-in-Err-clause-outputs g c = IfOk-weaker c.unconfigured.result _ _ (λ r is. is.outputs) c.unconfigured.ensures.renewed

pub returns-in-Err-clause-work : goal.returns-in-Err-clause-work
returns-in-Err-clause-work g c = λ before is. c.unconfigured.ensures.work before

pub returns-in-Err-clause-counted : goal.returns-in-Err-clause-counted
returns-in-Err-clause-counted g c =
    let now = work c.args.parses.now c.args.merges.now c.args.evals.now in
    IfOk-weaker c.unconfigured.result _ _ (λ r none. added_none now ∙ ap (added now) (sym none)) c.unconfigured.ensures.counted

pub returns-in-Err-clause-at_most : goal.returns-in-Err-clause-at_most
returns-in-Err-clause-at_most g c = λ before is. no_rise (IsWorkFrom before c.args.files.now) (work c.args.parses.now c.args.merges.now c.args.evals.now)
