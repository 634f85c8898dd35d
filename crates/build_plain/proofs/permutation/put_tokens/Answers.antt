use Rattle.std.proofs.Common.{◌∙◌, sym}
use Rattle.std.proofs.lemmas.Result.{on_ok_weaker}
use Rattle.std.specs.FinMap as map
use Rattle.std.specs.List.{zip}
use Rattle.token_cells.specs.Breaks.{token_reports, verdict}
use Rattle.build_plain.proofs.Gives.{files_put}
use Rattle.build_plain.proofs.permutation.put_tokens.Goals as goal

pub returns-in-None : goal.returns-in-None
returns-in-None c =
    on_ok_weaker c.put_sheets.result
    (files_put c.args.files.now c.args.name.now c.args.cells.now c.args.outputs.now c.put_sheets.new.outputs
    (verdict (token_reports c.args.flat.now (zip (map.entries c.args.flat.now) c.args.cells.now))) (sym c.in-None.is ∙ c.in_ok-text.ensures)) c.put_sheets.ensures
