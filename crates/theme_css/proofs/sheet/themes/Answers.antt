use Rattle.theme_css.proofs.Answering.{named_answer, refused_answer}
use Rattle.theme_css.proofs.sheet.themes.Goals as goal

pub returns-clause-refused : goal.returns-clause-refused
returns-clause-refused c = refused_answer c.one_build.ensures.outputs c.args.files.now c.sheet_for.result c.sheet_for.ensures.sheet c.sheet_for.ensures.stop

pub returns-clause-named : goal.returns-clause-named
returns-clause-named c =
    named_answer c.one_build.ensures.outputs c.args.files.now c.json_laws.ensures.one c.sheet_for.result c.sheet_for.ensures.sheet c.sheet_for.ensures.stop
