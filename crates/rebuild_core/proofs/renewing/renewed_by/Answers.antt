use Rattle.std.proofs.Common.{ap, ◌∙◌}
use Rattle.std.proofs.lemmas.Result.{IfOk-weaker}
use Rattle.file_plan.specs.View.{plan_view}
use Rattle.build_plain.proofs.Stands.{all_stand}
use Rattle.rebuild_core.specs.Engine.{counts_view}
use Rattle.rebuild_core.proofs.MadePasts.{made_came, made_renewed}
use Rattle.rebuild_core.proofs.PermWorks.{if_both}
use Rattle.rebuild_core.proofs.renewing.renewed_by.Goals as goal

pub with_outputs-requires : goal.with_outputs-requires
with_outputs-requires c = made_came c.args.files.now c.args.cfg c.args.plan c.args.now c.args.all.outcomes.items c.in_ok-past.past c.in_ok-past.ensures c.requires.all

pub returns-clause-renewed : goal.returns-clause-renewed
returns-clause-renewed c =
    let files = c.args.files.now in
    if_both c.with_outputs.result c.with_outputs.ensures.past c.with_outputs.ensures.outputs
    (made_renewed files c.args.cfg c.args.plan c.args.now c.args.all.outcomes.items c.in_ok-past.past c.in_ok-past.ensures c.requires.all c.requires.plan c.requires.now
    (all_stand files (plan_view c.args.plan) c.file_plan_laws.ensures.stand c.requires.plan))

pub returns-clause-counts : goal.returns-clause-counts
returns-clause-counts c = IfOk-weaker c.with_outputs.result _ _ (λ r same. ap counts_view same ∙ c.in_ok-counts.ensures) c.with_outputs.ensures.counts
