use Rattle.std.proofs.Common.{◌≡◌, [], ◌∷◌, List, ap}
use Rattle.std.proofs.lemmas.Result.{IfOk-weaker}
use Rattle.token_cells.specs.Cell.{IsCell}
use Rattle.token_cells.specs.TokenCell.{TokenCell}
use Rattle.token_cells.specs.inner.Kept.{rows_view}
use Rattle.token_cells.proofs.PagesGrow.{more_shown}
use Rattle.token_cells.proofs.token_cell.cell.Goals as goal

pub new-requires-2 : goal.new-requires-2
new-requires-2 g c =
    let (cell, is, adds) = c.in_ok-row.ensures.row in (
      cell ∷ [],
      adds.holds [] c.in-Ok.ensures,
      more_shown c.in-Ok.pages c.row_of_entry.new.pages c.new-rows.result.items c.push.new.self.items c.in_ok-row.row [] cell
          (λ later grown. ap (rows_view later) c.new-rows.ensures.items) adds c.in_ok-push.ensures.items,
    )

pub returns-clause-cell : goal.returns-clause-cell
returns-clause-cell g c =
    let (cell, is, adds) = c.in_ok-row.ensures.row in
    let shown =
    more_shown c.in-Ok.pages c.row_of_entry.new.pages c.new-rows.result.items c.push.new.self.items c.in_ok-row.row [] cell
    (λ later grown. ap (rows_view later) c.new-rows.ensures.items) adds c.in_ok-push.ensures.items in
    IfOk-weaker c.new-2.result _ (λ (cells : List TokenCell). (x : TokenCell) × (cells ≡ x ∷ []) × IsCell c.args.flat.now c.args.cfg.now c.args.path.now x)
    (λ cells e. (cell, e, is)) (c.new-2.ensures (cell ∷ []) shown)
