use Rattle.explain_cli.proofs.AnswersGiven.{shown_so}
use Rattle.explain_cli.proofs.answering.shown.Goals as goal

pub returns-in-Ok : goal.returns-in-Ok
returns-in-Ok c =
    shown_so c.args.files.now c.in-Ok.flat c.args.perm.now c.args.place.now c.in_ok-flat.field-0 c.in_ok-flat.ensures.judged c.in-Ok.is c.shown_in.result c.shown_in.ensures
