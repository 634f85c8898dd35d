use Rattle.std.proofs.Common.{IfSome, sym, subst}
use Rattle.std.proofs.lemmas.Result.{on_ok_weaker}
use Rattle.file_plan.specs.View.{plan_perm_view}
use Rattle.build_plain.specs.Outcomes.{IsOutcome}
use Rattle.rebuild_core.specs.inner.Clean.{AreCleanCells}
use Rattle.rebuild_core.specs.inner.Past.{outcome_of}
use Rattle.rebuild_core.proofs.CleanOutcomes.{clean_gives}
use Rattle.rebuild_core.proofs.putting.put_shared.Goals as goal

pub put_outcome-requires : goal.put_outcome-requires
put_outcome-requires c = subst (IsOutcome c.args.cfg.now c.args.files.now (plan_perm_view c.args.perm.now)) (sym c.outcome.ensures) c.requires

pub returns-in-Some : goal.returns-in-Some
returns-in-Some c =
    let clean = subst (λ o. IfSome o (λ cells. AreCleanCells (outcome_of c.args.shared.now) cells.now)) c.in-Some.is c.clean_cells.ensures in
    on_ok_weaker c.put_sheets.result
    (clean_gives c.args.files.now c.args.cfg.now (plan_perm_view c.args.perm.now) c.args.outputs.now c.put_sheets.new.outputs (outcome_of c.args.shared.now) c.in-Some.cells.now
    c.requires clean c.as_str.result.now c.as_str.ensures) c.put_sheets.ensures
