use Rattle.std.proofs.Common.{IfOk, subst}
use Rattle.json_out.specs.Properties.{ExtrasData}
use Rattle.token_cells.specs.Cell.{IsJsonOf}
use Rattle.token_cells.specs.inner.Making.{AddsJson}
use Rattle.token_cells.proofs.token_cell.add_member.Goals as goal

pub returns : goal.returns
returns c =
    subst (λ (e : ExtrasData). IfOk c.add_json.result (AddsJson (IsJsonOf c.args.path.now c.args.typed.now e) c.args.sheet.now c.add_json.new.sheet)) c.in_ok-extras.ensures c.add_json.ensures
