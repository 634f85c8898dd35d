use Rattle.theme_cli.proofs.Stopping.{answered}
use Rattle.theme_cli.proofs.building.answer_after.Goals as goal

pub returns-clause-answer : goal.returns-clause-answer
returns-clause-answer c =
    let files = c.in_ok-files.files in
    (c.in_ok-files.ensures.fits, (files, c.in_ok-files.ensures.files, answered files c.themes-sheet.result c.in_ok-answer_to.field-0 c.themes-sheet.ensures.sheet c.themes-sheet.ensures.stop c.in_ok-answer_to.ensures))
