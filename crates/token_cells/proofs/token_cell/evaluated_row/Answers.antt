use Rattle.std.proofs.Common.{◌≡◌, Some, sym, subst}
use Rattle.std.specs.Prelude.{IfSome}
use Rattle.std.specs.FinMap as map
use Rattle.std.specs.List.{slice_get}
use Rattle.alias_ref.specs.Answer.{MeansAsAt}
use Rattle.alias_ref.specs.Laws.{Flat}
use Rattle.token_cells.proofs.Entries.{entry_there}
use Rattle.token_cells.proofs.token_cell.evaluated_row.Goals as goal

pub returns-in-Ok-clause-row : goal.returns-in-Ok-clause-row
returns-in-Ok-clause-row g c =
    let flat = c.args.evaluator.now in
    let token = c.args.token.now in
    c.resolved_row.ensures.row flat (entry_there flat c.args.i token c.requires.token) c.in-Ok.ensures.resolved

pub resolved_row-requires : goal.resolved_row-requires
resolved_row-requires g c =
    let flat = c.args.evaluator.now in
    let token = c.args.token.now in
    let there = subst (λ (f : Flat). slice_get (map.entries f) c.args.i ≡ Some token) (sym c.evaluate.ensures.tree) c.requires.token in
    let means = subst (λ (f : Flat). IfSome c.end_of-place.result (MeansAsAt f token.0)) c.evaluate.ensures.tree (c.end_of-place.ensures token there) in
    (flat, c.in-Ok.ensures.resolved, means, c.requires.typed)

pub returns-in-Err-clause-row : goal.returns-in-Err-clause-row
returns-in-Err-clause-row g c =
    c.fault_row.ensures c.args.evaluator.now c.args.cfg.now c.args.token.now.0 c.args.pages.now c.in-Err.ensures.broken
