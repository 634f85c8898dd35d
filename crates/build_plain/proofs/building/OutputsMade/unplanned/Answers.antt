use Rattle.std.proofs.Common.{Ok}
use Rattle.std.proofs.lemmas.Result.{IfOk-weaker}
use Rattle.build_plain.specs.Out.{BuildsUnder}
use Rattle.build_plain.proofs.Planned.{has_break, under_refusal}
use Rattle.build_plain.proofs.Works.{on_ok_if}
use Rattle.build_plain.proofs.building.OutputsMade.unplanned.Goals as goal

pub returns-clause-ok : goal.returns-clause-ok
returns-clause-ok c = λ settings.
    IfOk-weaker c.refused_plan.result _ (BuildsUnder c.args.files.now (Ok settings))
    (λ o told. under_refusal c.args.files.now settings c.args.refusal.now o c.requires.refused told) c.refused_plan.ensures

pub returns-clause-broken : goal.returns-clause-broken
returns-clause-broken c = on_ok_if c.refused_plan.result (has_break c.args.files.now c.args.refusal.now) c.refused_plan.ensures
