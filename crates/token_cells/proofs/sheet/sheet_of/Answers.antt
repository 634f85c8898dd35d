use Rattle.std.proofs.Common.{◌≡◌, ◌∙◌}
use Rattle.std.proofs.lemmas.Result.{IfOk-weaker}
use Rattle.token_cells.specs.Sheets.{sheet_for}
use Rattle.token_cells.proofs.PagesGrow.{page_is}
use Rattle.token_cells.proofs.sheet.sheet_of.Goals as goal

pub returns : goal.returns
returns c =
    IfOk-weaker c.share.result _ (λ b. b ≡ sheet_for c.args.format c.args.cells.now)
    (λ b is. is ∙ (c.page.ensures ∙ page_is c.args.format c.parts.result.1.now c.args.cells.now c.parts.ensures.pages)) c.share.ensures
