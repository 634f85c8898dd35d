use Rattle.token_cli.proofs.Decided.{one_for}
use Rattle.token_cli.proofs.laws.one_status.Goals as goal

pub returns : goal.returns
returns c = one_for c.one_build.ensures.outputs
