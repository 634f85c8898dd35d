use Rattle.explain_cli.proofs.AnswersGiven.{checked_so}
use Rattle.explain_cli.proofs.answering.checked_in.Goals as goal

pub returns-in-Ok : goal.returns-in-Ok
returns-in-Ok c text one =
    checked_so c.args.files.now c.in-Ok.flat c.of.result c.args.named.now.perm.now text c.args.named.now.cert c.in_ok-flat.field-0 c.in_ok-flat.ensures.judged c.in-Ok.is c.of.ensures one c.verified.result c.verified.ensures
