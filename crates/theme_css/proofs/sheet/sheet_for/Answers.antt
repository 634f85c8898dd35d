use Rattle.std.proofs.Common.{◌∙◌, Some, ap, sym}
use Rattle.std.specs.FinMap as finite
use Rattle.file_plan.specs.InUse.{resolver_path}
use Rattle.theme_css.proofs.Answering.{whole_sheet, whole_stop}
use Rattle.theme_css.proofs.sheet.sheet_for.Goals as goal

pub returns-in-Some-clause-stop : goal.returns-in-Some-clause-stop
returns-in-Some-clause-stop c = (c.in_ok-outputs.outputs, c.in_ok-outputs.ensures, sym c.in-Some.ensures ∙ ap Some (sym c.in_ok-bytes_of.ensures))

pub returns-clause-sheet : goal.returns-clause-sheet
returns-clause-sheet c =
    whole_sheet c.reading_laws.ensures.join c.reading_laws.ensures.once c.args.files.now c.in_ok-outputs.outputs c.sheet_by.result c.in_ok-outputs.ensures (sym c.in_default.ensures)
    (c.sheet_by.ensures (finite.get c.args.files.now resolver_path) c.in_ok-tree.ensures)

pub returns-clause-stop : goal.returns-clause-stop
returns-clause-stop c =
    whole_stop c.args.files.now c.in_ok-outputs.outputs c.sheet_by.result c.in_ok-outputs.ensures (sym c.in_default.ensures) (c.sheet_by.ensures (finite.get c.args.files.now resolver_path) c.in_ok-tree.ensures)
