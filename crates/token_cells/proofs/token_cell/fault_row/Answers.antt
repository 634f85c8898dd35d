use Rattle.std.proofs.lemmas.Result.{IfOk-weaker}
use Rattle.refusals.specs.declared.rule.CellRule.TheVariants.{Ref}
use Rattle.token_cells.specs.Cell.{IsCell}
use Rattle.token_cells.specs.TokenCell.{Refused}
use Rattle.token_cells.specs.inner.Making.{ComesTo}
use Rattle.token_cells.proofs.Comes.{broken_reference}
use Rattle.token_cells.proofs.PagesGrow.{refused_row}
use Rattle.token_cells.proofs.token_cell.fault_row.Goals as goal

pub returns-in-Broken : goal.returns-in-Broken
returns-in-Broken c = λ flat settings path pages h.
    let fault = c.in-Broken in
    let broken = broken_reference flat settings path c.args.fault fault.rule fault.place fault.ring fault.is h in
    IfOk-weaker c.refused.result _ (ComesTo (IsCell flat settings path) pages pages)
    (λ row is. (Refused (Ref fault.rule) fault.place fault.ring, broken, refused_row pages row (Ref fault.rule) fault.place fault.ring is)) c.refused.ensures
