use Rattle.std.proofs.Common.{◌∙◌}
use Rattle.std.proofs.lemmas.Result.{IfOk-weaker}
use Rattle.refusals.specs.declared.rule.CellRule.TheVariants.{Value}
use Rattle.token_cells.specs.TokenCell.{Refused}
use Rattle.token_cells.proofs.token_cell.refused_value.Goals as goal

pub returns : goal.returns
returns c =
    IfOk-weaker c.refused.result _ _
    (λ row is pages. is pages ∙ (λ k. Refused (Value c.args.rule) (record { token = c.in_ok-token.ensures k; trail = c.args.trail }) (c.new.ensures k))) c.refused.ensures
