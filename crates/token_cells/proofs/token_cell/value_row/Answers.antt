use Rattle.std.proofs.Common.{[], refl}
use Rattle.std.proofs.lemmas.Result.{IfOk-weaker}
use Rattle.name_path.specs.declared.place.Place.{Place}
use Rattle.refusals.specs.declared.rule.CellRule.TheVariants.{Value}
use Rattle.token_cells.specs.Cell.{IsCell}
use Rattle.token_cells.specs.TokenCell.{Refused}
use Rattle.token_cells.specs.inner.Making.{ComesTo}
use Rattle.token_cells.proofs.Comes.{refused_cell}
use Rattle.token_cells.proofs.PagesGrow.{refused_row}
use Rattle.token_cells.proofs.token_cell.value_row.Goals as goal

pub returns-in-Broken : goal.returns-in-Broken
returns-in-Broken c = λ flat settings r pages found h.
    let rule = c.in-Broken.rule in
    let place : Place = record { token = c.args.path.now; trail = c.in-Broken.trail } in
    let broken = refused_cell flat settings c.args.path.now r c.args.fault rule c.in-Broken.trail (Refused (Value rule) place []) c.in-Broken.is found refl h in
    IfOk-weaker c.refused_value.result _ (ComesTo (IsCell flat settings c.args.path.now) pages pages)
    (λ row is. (Refused (Value rule) place [], broken, refused_row pages row (Value rule) place [] is)) c.refused_value.ensures
