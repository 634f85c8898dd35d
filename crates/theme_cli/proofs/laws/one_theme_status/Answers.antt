use Rattle.theme_cli.proofs.OneStatus.{one_theme_status}
use Rattle.theme_cli.proofs.laws.one_theme_status.Goals as goal

pub returns : goal.returns
returns c = one_theme_status c.one_build.ensures.outputs c.json_laws.ensures.answer
