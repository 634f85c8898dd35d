use Rattle.theme_css.proofs.OneSheet.{one_sheet}
use Rattle.theme_css.proofs.laws.one_sheet.Goals as goal

pub returns : goal.returns
returns c = one_sheet c.one_build.ensures.outputs c.json_laws.ensures.one
